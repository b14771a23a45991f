-- What the blocks of an input say, and the line of one that is refused.
use Rattle.std.specs.Prelude.{◌≡◌, ℕ, ◌+◌, List, [], ◌∷◌, ◌++◌, length, Option, Some, None, Result, Ok, Err, IsOk, if◌then◌else◌, codes, decimal}
use Rattle.protocol_lang.specs.Faults.{code_of as protocol_code}
use Rattle.protocol_lang.specs.FirstFaults.{place_of}
use Rattle.room_spec.specs.Faults.{code_of as block_code}
use Rattle.room_spec.specs.Rooms.{RoomSpec}
use Rattle.room_spec.specs.Blocks.{block_len}
use Rattle.room_spec.specs.declared.fault.SpecFault.{SpecFault}
use Rattle.room_spec.specs.declared.fault.SpecFault.TheVariants.{BadLine, BadProtocol, CrashLine, Repeated, TaskLine}
use Rattle.history_checker.specs.Verdicts.{has_room}
use Rattle.room_files.specs.Faults.{FaultAt}
use Rattle.room_files.specs.Kinds.{block_of}
use Rattle.room_files.specs.Lines.{text_lines}
use Rattle.room_files.specs.declared.kinds.Kinds.{Kinds}
use Rattle.room_files.specs.declared.fault.InputFault.{InputFault}
use Rattle.room_files.specs.declared.fault.InputFault.TheVariants.{BadInput, Memory}
use Rattle.room_files.specs.declared.fault.BlockFault.{BlockFault}
use Rattle.room_files.specs.declared.fault.BlockFault.TheVariants as blocks

-- ---- a refused block's line

-- the fault's code, and its place if it has one
abbrev pub protocol_text : ℕ → Option ℕ → List ℕ
protocol_text code None = decimal code
protocol_text code (Some at) = decimal code ++ (codes " " ++ decimal at)

-- the numbers after a fault's code: its line, or what is wrong with the protocol
abbrev pub numbers_after : SpecFault → List ℕ
numbers_after (BadLine line) = codes " " ++ decimal line
numbers_after (BadProtocol fault) = codes " " ++ protocol_text (protocol_code fault) (place_of fault)
numbers_after (CrashLine line) = codes " " ++ decimal line
numbers_after (Repeated line) = codes " " ++ decimal line
numbers_after (TaskLine line) = codes " " ++ decimal line
numbers_after fault = []

-- the fault's code and the numbers after it
abbrev pub fault_text : SpecFault → List ℕ
fault_text fault = decimal (block_code fault) ++ numbers_after fault

abbrev pub refused_line : ℕ → List ℕ → List ℕ
refused_line line fault = codes "line " ++ (decimal line ++ (codes " refused " ++ (fault ++ codes "\n")))

-- why a block opens no room, after the word `refused`
abbrev pub why_text : BlockFault → List ℕ
why_text (blocks.Spec fault) = fault_text fault
why_text blocks.NameTaken = codes "41"

-- the fault is the block's own, or the block has none, and a room before it has its name
abbrev pub IsWhy : Kinds → List ℕ → BlockFault → Type 0
IsWhy kinds block (blocks.Spec fault) = block_of kinds block ≡ Err fault
IsWhy kinds block blocks.NameTaken = IsOk (block_of kinds block)

-- ---- the blocks

-- what the blocks so far say: the rooms that they open, the lines of those that were refused, and the number of the next line
pub record Setup : Type 0 where
  pub rooms : List RoomSpec
  pub refused : List ℕ
  pub line : ℕ

abbrev pub no_blocks : Setup
no_blocks = record { rooms = []; refused = []; line = 1 }

abbrev pub refuse : Setup → List ℕ → Setup
refuse setup fault = record { rooms = setup.rooms; refused = setup.refused ++ refused_line setup.line fault; line = setup.line }

-- a second room of a name is refused
abbrev pub open_room : Setup → RoomSpec → Setup
open_room setup room =
    if has_room room.name setup.rooms then refuse setup (codes "41") else record { rooms = setup.rooms ++ room ∷ []; refused = setup.refused; line = setup.line }

abbrev pub open_block : Setup → Result (RoomSpec × ℕ) SpecFault → Setup
open_block setup (Ok read) = open_room setup read.0
open_block setup (Err fault) = refuse setup (fault_text fault)

abbrev pub pass_lines : ℕ → Setup → Setup
pass_lines count setup = record { rooms = setup.rooms; refused = setup.refused; line = setup.line + count }

-- one block more, of these bytes, where blocks of these kinds are read
abbrev pub after_block : Kinds → Setup → List ℕ → Setup
after_block kinds setup block = pass_lines (length (text_lines block)) (open_block setup (block_of kinds block))

abbrev pub or_all : List ℕ → Option ℕ → ℕ
or_all text None = length text
or_all text (Some len) = len

-- how many bytes of a text are its first block: those up to its line `end`, or else all
abbrev pub block_extent : List ℕ → ℕ
block_extent text = or_all text (block_len text)

-- ---- an input's fault

-- the fault is the one that reading gave; where `memory` holds, memory may have been refused
abbrev pub IsFaultOr : {A : Type 0} → Type 0 → Result A FaultAt → InputFault → Type 0
IsFaultOr memory read (BadInput line fault) = read ≡ Err (line, fault)
IsFaultOr memory read Memory = memory
