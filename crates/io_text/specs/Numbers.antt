-- Numbers as text.
use Rattle.std.specs.Prelude.{ℕ, List, ◌∷◌, Option, Some, None, codes, decimal}
use Rattle.std.specs.List.{flat_map}

-- numbers, each after a space
abbrev pub numbers_text : List ℕ → List ℕ
numbers_text numbers = flat_map (λ number. 32 ∷ decimal number) numbers

-- an entry of a row: a number, or `.` for nothing
abbrev pub entry_word : Option ℕ → List ℕ
entry_word None = codes "."
entry_word (Some number) = decimal number

-- entries, each after a space
abbrev pub entries_text : List (Option ℕ) → List ℕ
entries_text entries = flat_map (λ entry. 32 ∷ entry_word entry) entries
