-- Where a fault is: the number of its line, the byte in that line, and its sentence.
use Rattle.std.specs.Prelude.{◌≡◌, ℕ, ◌+◌, ◌-◌, List, ◌++◌, length, take, drop, Option, Some, None}
use Rattle.protocol_lang.specs.Faults.{sentence_of as protocol_sentence}
use Rattle.protocol_lang.specs.FirstFaults.{place_of}
use Rattle.protocol_lang.specs.declared.fault.ParseFault.{ParseFault}
use Rattle.room_spec.specs.declared.fault.SpecFault.{SpecFault}
use Rattle.room_spec.specs.declared.fault.SpecFault.TheVariants.{BadProtocol}
use Rattle.room_files.specs.Faults.{block_sentence}
use Rattle.room_files.specs.declared.fault.BlockFault.{BlockFault}
use Rattle.room_files.specs.declared.fault.BlockFault.TheVariants as blocks
use Rattle.fault_text.specs.Blocks.{forms_at, later_line, line_ends, line_of, program_of}
use Rattle.fault_text.specs.Lines.{indented, indented_all, last_line, line_at}
use Rattle.fault_text.specs.Phrases.{place_in}
use Rattle.fault_text.specs.Places.{heading, place_notes}

-- the number of a line, the place in it, counted from 1, if the fault has one, and the fault's sentence
pub record SpotParts : Type 0 where
  pub line : ℕ
  pub place : Option ℕ
  pub what : List ℕ

-- of a line that has one of these forms, or should
abbrev pub form_spot : ℕ → List ℕ → List ℕ → List (List ℕ) → SpotParts
form_spot number what line forms = record { line = number; place = Some (place_in line forms + 1); what = what }

-- of a block's line
abbrev pub line_spot : ℕ → List ℕ → ℕ → BlockFault → SpotParts
line_spot first text line fault = form_spot (later_line first (line - 1)) (block_sentence fault) (line_at line text) (forms_at text line)

-- of a protocol's text, before which there are this many lines of the block
abbrev pub spot_in : ℕ → ℕ × List ℕ → ParseFault → Option ℕ → SpotParts
spot_in first program fault None = record { line = later_line first program.0; place = None; what = protocol_sentence fault }
spot_in first program fault (Some place) =
    record { line = later_line first (program.0 + line_ends (take place program.1)); place = Some (length (last_line (take place program.1)) + 1); what = protocol_sentence fault }

abbrev pub program_spot : ℕ → List ℕ → ParseFault → SpotParts
program_spot first text fault = spot_in first (program_of text) fault (place_of fault)

-- of a block with which this text begins; its first line has this number
abbrev pub block_spot : ℕ → List ℕ → SpecFault → SpotParts
block_spot first text (BadProtocol fault) = program_spot first text fault
block_spot first text fault = line_spot first text (line_of fault) (blocks.Spec fault)

-- the same if the block may be valid but for its name
abbrev pub refusal_spot : ℕ → List ℕ → BlockFault → SpotParts
refusal_spot first text (blocks.Spec fault) = block_spot first text fault
refusal_spot first text blocks.NameTaken = line_spot first text 2 blocks.NameTaken

-- ---- laws

-- What is said begins with the sentence after the number of the line; and if there is a place, with the line and a caret below that byte of it.
abbrev pub IsSaidIn : ℕ → Option ℕ → List ℕ → List ℕ → Type 0
IsSaidIn number None what said = (hints : List ℕ) × (said ≡ indented (heading number what) ++ hints)
IsSaidIn number (Some place) what said =
    (line : List ℕ) × (before : ℕ) × (hints : List ℕ) × (place ≡ before + 1) × (said ≡ indented_all (place_notes number what (take before line) (drop before line)) ++ hints)

abbrev pub IsSaidAt : SpotParts → List ℕ → Type 0
IsSaidAt spot said = IsSaidIn spot.line spot.place spot.what said
