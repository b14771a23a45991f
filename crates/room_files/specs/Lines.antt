-- A text's lines, of which the last may lack its line end.
use Rattle.std.specs.Prelude.{ℕ, List, [], ◌∷◌}
use Rattle.room_spec.specs.Texts.{lines_of}

-- what comes after the last line end is a line if it isn't empty
abbrev pub last_line : List ℕ → List (List ℕ)
last_line [] = []
last_line (byte ∷ bytes) = (byte ∷ bytes) ∷ []

-- a piece, the pieces after it, and the lines that these are
abbrev pub line_before : List ℕ → List (List ℕ) → List (List ℕ) → List (List ℕ)
line_before piece [] lines = last_line piece
line_before piece (next ∷ pieces) lines = piece ∷ lines

abbrev pub lines_in : List (List ℕ) → List (List ℕ)
lines_in [] = []
lines_in (piece ∷ pieces) = line_before piece pieces (lines_in pieces)

abbrev pub text_lines : List ℕ → List (List ℕ)
text_lines text = lines_in (lines_of text)
