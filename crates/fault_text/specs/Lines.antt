-- Lines of a text, and lines for people after those that `bgsim` writes.
use Rattle.std.specs.Prelude.{ℕ, zero, suc, ◌-◌, ◌==◌, not, List, [], ◌∷◌, ◌++◌, codes}
use Rattle.std.specs.List.{flat_map, prefix_len}
use Rattle.room_spec.specs.Texts.{first_line, later_lines, lines_of}

-- a line after another, for people
abbrev pub indented : List ℕ → List ℕ
indented text = codes "    " ++ (text ++ codes "\n")

abbrev pub indented_all : List (List ℕ) → List ℕ
indented_all notes = flat_map indented notes

-- what comes after this many lines of a text
unfoldable pub lines_after : ℕ → List ℕ → List ℕ
lines_after zero text = text
lines_after (suc count) text = lines_after count (later_lines text)

-- a text from its line of this number on, counted from 1
abbrev pub from_line : ℕ → List ℕ → List ℕ
from_line number text = lines_after (number - 1) text

-- that line
abbrev pub line_at : ℕ → List ℕ → List ℕ
line_at number text = first_line (from_line number text)

-- the last of some lines
abbrev pub last_of : List (List ℕ) → List ℕ
last_of [] = []
last_of (line ∷ []) = line
last_of (line ∷ next ∷ lines) = last_of (next ∷ lines)

-- the last line of a text
abbrev pub last_line : List ℕ → List ℕ
last_line text = last_of (lines_of text)

-- how many bytes come before a line's first space
abbrev pub word_len : List ℕ → ℕ
word_len line = prefix_len (λ byte. not (byte == 32)) line
