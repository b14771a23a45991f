-- What is warned of in the rooms of a file.
use Rattle.std.specs.Prelude.{ℕ, Bool, true, false, List, [], ◌∷◌, ◌++◌, length, drop, None, Result, Ok, Err, if◌then◌else◌}
use Rattle.room_files.specs.Kinds.{block_of}
use Rattle.room_files.specs.declared.kinds.Kinds.TheVariants.{All}
use Rattle.room_spec.specs.Rooms.{RoomSpec}
use Rattle.room_spec.specs.Texts.{later_lines}
use Rattle.room_spec.specs.declared.fault.SpecFault.{SpecFault}
use Rattle.room_files.specs.Blocks.{block_extent}
use Rattle.room_files.specs.Lines.{text_lines}
use Rattle.fault_text.specs.Blocks.{later_line}
use Rattle.fault_text.specs.Lines.{indented}
use Rattle.fault_text.specs.declared.refusals.TheConstants.{MOST_EXPLAINED}
use Rattle.json_lines.specs.Lines.{json_line}
use Rattle.room_warnings.specs.Json.{warning_data}
use Rattle.room_warnings.specs.Warnings.{room_warnings}
use Rattle.file_faults.specs.Json.{enough_in}
use Rattle.file_faults.specs.Scripts.{begins_with_block, block_in_front}
use Rattle.file_faults.specs.Walks.{Parts, alone, said_from}
use Rattle.file_faults.specs.declared.warnings.TheConstants.{EMPTY_FILE}

abbrev pub warnings_if : Bool → ℕ → List ℕ → Result (RoomSpec × ℕ) SpecFault → List ℕ
warnings_if json number block (Ok read) = room_warnings json number block read.0
warnings_if json number block (Err fault) = []

-- of a block that is valid, whose first line has this number
abbrev pub block_warnings : Bool → ℕ → List ℕ → List ℕ
block_warnings json number block = warnings_if json number block (block_of All block)

-- a part of a file is a block, or another line
abbrev pub part_warnings : Bool → ℕ → List ℕ → List ℕ
part_warnings json number text = if begins_with_block text then block_warnings json number (block_in_front text) else []

abbrev pub next_part : ℕ → List ℕ → ℕ
next_part number text = if begins_with_block text then later_line number (length (text_lines (block_in_front text))) else later_line number 1

-- the first line of a block is no line `end`
abbrev pub part_after : List ℕ → List ℕ
part_after text = if begins_with_block text then drop (block_extent (later_lines text)) (later_lines text) else later_lines text

abbrev pub file_parts : Bool → Parts (Unit {0})
file_parts json = alone (enough_in json) (part_warnings json) next_part part_after

abbrev pub empty_in : Bool → List ℕ
empty_in false = indented EMPTY_FILE.now
empty_in true = json_line (warning_data None None EMPTY_FILE.now)

abbrev pub empty_warning : Bool → List ℕ → List ℕ
empty_warning json [] = empty_in json
empty_warning json (byte ∷ input) = []

-- of a file with nothing in it, or of all blocks of a file, as text or as JSON
unfoldable pub warnings_said : Bool → List ℕ → List ℕ
warnings_said json input = empty_warning json input ++ said_from (file_parts json) (length input) MOST_EXPLAINED tt 1 input

abbrev pub file_warnings : List ℕ → List ℕ
file_warnings input = warnings_said false input
