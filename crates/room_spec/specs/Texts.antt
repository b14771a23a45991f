-- Texts as lines, and lines as fields.
use Rattle.std.specs.Prelude.{ℕ, Bool, List, [], Option, Some, None, ◌==◌}
use Rattle.std.specs.List.{before_first, after_first, slice_split}

abbrev pub is_line_end : ℕ → Bool
is_line_end byte = byte == 10

abbrev pub is_space : ℕ → Bool
is_space byte = byte == 32

abbrev pub first_line : List ℕ → List ℕ
first_line text = before_first is_line_end text

abbrev pub later_lines : List ℕ → List ℕ
later_lines text = after_first is_line_end text

-- the lines without their line ends; what comes after the last line end is the last of them
abbrev pub lines_of : List ℕ → List (List ℕ)
lines_of text = slice_split is_line_end text

-- what is between a line's spaces
abbrev pub fields_of : List ℕ → List (List ℕ)
fields_of line = slice_split is_space line

-- the pieces of the rest, if there is one
abbrev pub pieces_of : (ℕ → Bool) → Option (List ℕ) → List (List ℕ)
pieces_of is_cut None = []
pieces_of is_cut (Some rest) = slice_split is_cut rest
