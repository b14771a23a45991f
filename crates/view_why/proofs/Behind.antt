-- Two pieces that are put behind a text.
use Rattle.std.proofs.Common.{◌≡◌, ◌∙◌, ℕ, List, ◌++◌, ap, append_assoc}
use Rattle.std.specs.Prelude.{Result, Ok, Err, OnOk}

pub put_behind : {T E : Type 0} (result : Result T E) (start middle whole first second : List ℕ) → middle ≡ start ++ first → OnOk result (whole ≡ middle ++ second) → OnOk result (whole ≡ start ++ (first ++ second))
put_behind (Ok done) start middle whole first second is last = last ∙ ap (λ (xs : List ℕ). xs ++ second) is ∙ append_assoc start first second
put_behind (Err fault) start middle whole first second is last = tt
