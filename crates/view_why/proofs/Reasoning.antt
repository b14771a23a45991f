-- A line of a room's events, and why it breaks its run or its task, behind a text.
use Rattle.std.proofs.Common.{◌≡◌, ◌∙◌, ℕ, List, [], ◌∷◌, ◌++◌, ap, sym}
use Rattle.std.specs.Prelude.{codes, Result, Ok, Err, OnOk}
use Rattle.std.proofs.lemmas.List.{append-nil, append_assoc}
use Rattle.fault_text.specs.Lines.{indented, indented_all}

-- two lines behind a text, the second piece by piece
pub pieces : (start first second : List ℕ) → (((start ++ indented first) ++ codes "    ") ++ second) ++ codes "\n" ≡ start ++ indented_all (first ∷ second ∷ [])
pieces start first second =
    append_assoc ((start ++ indented first) ++ codes "    ") second (codes "\n")
    ∙ append_assoc (start ++ indented first) (codes "    ") (second ++ codes "\n")
    ∙ append_assoc start (indented first) (indented second)
    ∙ ap (λ t. start ++ (indented first ++ t)) (sym (append-nil (indented second)))

pub two_lines : {T E : Type 0} (result : Result T E) (start first second a b c last : List ℕ) (P : List (List ℕ) → Type 0) → P (first ∷ second ∷ []) → a ≡ start ++ indented first → b ≡ a ++ codes "    " → c ≡ b ++ second → OnOk result (last ≡ c ++ codes "\n")
    → OnOk result ((notes : List (List ℕ)) × P notes × (last ≡ start ++ indented_all notes))
two_lines (Err fault) start first second a b c last P is a_is b_is c_is last_is = tt
two_lines (Ok done) start first second a b c last P is a_is b_is c_is last_is =
    (first ∷ second ∷ [], is, last_is ∙ ap (λ t. t ++ codes "\n") (c_is ∙ ap (λ t. t ++ second) (b_is ∙ ap (λ t. t ++ codes "    ") a_is)) ∙ pieces start first second)
