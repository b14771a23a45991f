-- The entries of a script that is fed as it is written: which of its bytes are whole entries.
use Rattle.std.specs.Prelude.{◌≡◌, ⊤, ℕ, ◌+◌, ◌≤◌, Bool, true, false, not, ◌&&◌, List, [], ◌∷◌, ◌++◌, length, take, Option, Some, None, Result, Ok, min, nat_eq, is_some, if◌then◌else◌, codes}
use Rattle.std.specs.List.{ends_with, flat_map, list_any}
use Rattle.std.specs.Option.{option_and_then}
use Rattle.room_spec.specs.Blocks.{block_len}
use Rattle.room_spec.specs.Grammar.{is_line}
use Rattle.room_spec.specs.Texts.{first_line, is_line_end, later_lines}
use Rattle.room_files.specs.Faults.{FaultAt}
use Rattle.room_files.specs.Lines.{text_lines}
use Rattle.script_play.specs.Script.{Entry, Open, asked, command_in, is_open}
use Rattle.live_script.specs.declared.entries.TheConstants.{MAX_ENTRY}
use Rattle.live_script.specs.declared.live.TheConstants.{MAX_LINE_NUMBER}

-- A line that is not `open`; or the block after such a line.
pub data Piece : Type 0 where
  Line : List ℕ → Piece
  Block : List ℕ → Piece

-- its bytes, with the line `open`
abbrev pub piece_text : Piece → List ℕ
piece_text (Line line) = line ++ codes "\n"
piece_text (Block block) = codes "open\n" ++ block

abbrev pub with_line_end : List ℕ → ℕ → Option ℕ
with_line_end text len = if ends_with nat_eq (take len text) (codes "\n") then Some len else None

-- how many bytes are the block at the front, if its line `end` has its line end
abbrev pub whole_block : List ℕ → Option ℕ
whole_block text = option_and_then (with_line_end text) (block_len text)

abbrev pub IsWhole : Piece → Type 0
IsWhole (Line line) = (is_line line ≡ true) × (is_open line ≡ false)
IsWhole (Block block) = whole_block block ≡ Some (length block)

abbrev pub AreWhole : List Piece → Type 0
AreWhole [] = ⊤
AreWhole (piece ∷ pieces) = IsWhole piece × AreWhole pieces

abbrev pub pieces_text : List Piece → List ℕ
pieces_text pieces = flat_map piece_text pieces

-- no entry is whole yet: the first line has no line end, or is `open`, and the block after it has not ended
abbrev pub is_unfinished : List ℕ → Bool
is_unfinished text =
    if list_any is_line_end text then is_open (first_line text) && not (is_some (whole_block (later_lines text))) else true

-- the most bytes of an entry
abbrev pub most_entry : ℕ
most_entry = MAX_ENTRY

-- the entry that comes next is longer
abbrev pub IsTooLong : List ℕ → Type 0
IsTooLong text = (most_entry ≤ length text) × (is_unfinished (take most_entry text) ≡ true)

-- it may yet become whole
abbrev pub IsBegun : List ℕ → Type 0
IsBegun text = (length text + 1 ≤ most_entry) × (is_unfinished text ≡ true)

-- what the last bytes of a script are, without a line end or a line `end`
abbrev pub last_piece : List ℕ → Piece
last_piece text = if is_open (first_line text) then Block (later_lines text) else Line text

abbrev pub last_pieces : List ℕ → List Piece
last_pieces [] = []
last_pieces (byte ∷ bytes) = last_piece (byte ∷ bytes) ∷ []

-- ---- what they ask for

abbrev pub lines_in : Piece → ℕ
lines_in (Line line) = 1
lines_in (Block block) = 1 + length (text_lines block)

-- the number of the line after an entry, which stops at 4294967295
abbrev pub line_after : ℕ → Piece → ℕ
line_after number piece = min (number + lines_in piece) MAX_LINE_NUMBER

-- what it asks for, where its first line has this number, or its fault: the same as in a script that is read whole
abbrev pub asked_by : ℕ → Piece → Result Entry FaultAt
asked_by number (Line line) = asked number (command_in line)
asked_by number (Block block) = Ok (Open (number + 1) block)
