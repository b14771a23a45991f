-- What is said in two parts.
use Rattle.std.proofs.Common.{◌≡◌, ◌∙◌, ℕ, List, ◌++◌, Option, None, Some, Result, Ok, Err, OnOk, ap}
use Rattle.std.proofs.lemmas.List.{append_assoc}
use Rattle.std.specs.Io.KnownBytes.{Appends}

both : (a b c : Option (List ℕ)) (first second : List ℕ) → Appends a b first → Appends b c second → Appends a c (first ++ second)
both None b c first second one other = tt
both (Some xs) None c first second one other = absurd one
both (Some xs) (Some ys) None first second one other = absurd other
both (Some xs) (Some ys) (Some zs) first second one other = other ∙ ap (λ (l : List ℕ). l ++ second) one ∙ append_assoc xs first second

pub said_both : {A E : Type 0} (result : Result A E) (a b c : Option (List ℕ)) (first second : List ℕ) → Appends a b first → OnOk result (Appends b c second) → OnOk result (Appends a c (first ++ second))
said_both (Ok value) a b c first second one other = both a b c first second one other
said_both (Err fault) a b c first second one other = tt
