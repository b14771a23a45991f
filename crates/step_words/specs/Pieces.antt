-- Pieces of text.
use Rattle.std.specs.Prelude.{ℕ, ◌-◌, List, ◌∷◌, ◌++◌, length, max, replicate, codes, decimal}

-- with spaces after it, up to a width; with one if it is wider
abbrev pub padded : ℕ → List ℕ → List ℕ
padded width text = text ++ replicate (max (width - length text) 1) 32

-- a number after words
abbrev pub behind : List ℕ → ℕ → List ℕ
behind before number = before ++ (32 ∷ decimal number)

-- a number between words
abbrev pub between : List ℕ → ℕ → List ℕ → List ℕ
between before number after = behind before number ++ after

-- a further number of a field
abbrev pub further : ℕ → List ℕ
further number = codes "," ++ decimal number

-- a field by its numbers, as `out(0,1)` and `view(0,1,2)`
abbrev pub with_two : List ℕ → ℕ → ℕ → List ℕ
with_two name one two = (name ++ (codes "(" ++ decimal one)) ++ (further two ++ codes ")")

abbrev pub with_three : List ℕ → ℕ → ℕ → ℕ → List ℕ
with_three name one two three = (name ++ (codes "(" ++ decimal one)) ++ (further two ++ (further three ++ codes ")"))
