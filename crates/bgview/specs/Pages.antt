-- What is answered for two files that are shown next to each other.
use Rattle.std.specs.Prelude.{◌≡◌, ⊤, ℕ, ◌≤◌, Bool, true, List, [], ◌∷◌, length, None, Result, nat_lt}
use Rattle.std.specs.List.{list_any}
use Rattle.io_text.specs.Reading.{most_bytes}
use Rattle.room_files.specs.declared.outcome.Outcome.{Outcome}
use Rattle.view_page.specs.Pages.{IsPageFor, fault_among}
use Rattle.bgview.specs.Answers.{IsAnswerOf}
use Rattle.bgview.specs.declared.fault.ViewFault.{ViewFault}

-- none is too long
abbrev pub AllFit : List (List ℕ) → Type 0
AllFit [] = ⊤
AllFit (file ∷ rest) = (length file ≤ most_bytes) × AllFit rest

abbrev pub has_long : List (List ℕ) → Bool
has_long files = list_any (λ (file : List ℕ). nat_lt most_bytes (length file)) files

-- The fault is the first of the first file that has one.
abbrev pub IsPageAnswer : List (List ℕ) → Result Outcome ViewFault → List ℕ → Type 0
IsPageAnswer files result output = IsAnswerOf (AllFit files) (has_long files ≡ true) (IsPageFor files) (fault_among files) None result output
