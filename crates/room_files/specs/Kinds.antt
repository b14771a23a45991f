-- What a block says, by the kinds of blocks that are read.
use Rattle.std.specs.Prelude.{◌≡◌, ℕ, Bool, false, List, length, nat_eq, Result, Ok, Err, if◌then◌else◌, ◌||◌, codes}
use Rattle.std.specs.List.{starts_with}
use Rattle.std.specs.Str.{bytes_eq}
use Rattle.room_spec.specs.Rooms.{RoomSpec}
use Rattle.room_spec.specs.Texts.{first_line}
use Rattle.room_spec.specs.Blocks.{MayLackAtBy, OrMemory, before_end, body_len, out_of_memory, protocol_text_in, reduction_in, reduction_text_in, room_in}
use Rattle.room_spec.specs.declared.fault.SpecFault.{SpecFault}
use Rattle.room_files.specs.declared.kinds.Kinds.{Kinds}
use Rattle.room_files.specs.declared.kinds.Kinds.TheVariants.{Ordinary, All}

-- the text is read as the block of a reduction: such blocks are read, and its first line is theirs
abbrev pub reads_reduction : Kinds → List ℕ → Bool
reads_reduction Ordinary text = false
reads_reduction All text = bytes_eq (first_line text) (codes "reduction 1")

-- what reads the lines before the line `end`
abbrev pub room_in_lines : Bool → List ℕ → Result RoomSpec SpecFault
room_in_lines reduction body = if reduction then reduction_in body else room_in body

-- what finds the protocol's text among them
abbrev pub text_in_lines : Bool → List ℕ → Result (List ℕ) SpecFault
text_in_lines reduction body = if reduction then reduction_text_in body else protocol_text_in body

-- the first line is that of an ordinary room, and isn't the last
abbrev pub begins_ordinary : List ℕ → Bool
begins_ordinary text = starts_with nat_eq text (codes "bgsim 1\n") || starts_with nat_eq text (codes "bgsim 2\n")

-- what a block at the front of a text says, read as an ordinary room's or as a reduction's, and how many bytes it takes, or its first fault
abbrev pub block_by : Bool → List ℕ → Result (RoomSpec × ℕ) SpecFault
block_by reduction text = before_end (room_in_lines reduction) text (body_len text)

-- the same where blocks of these kinds are read
abbrev pub block_of : Kinds → List ℕ → Result (RoomSpec × ℕ) SpecFault
block_of kinds text = block_by (reads_reduction kinds text) text

-- an allocation for its protocol failed
abbrev pub RefusedMemoryBy : Bool → List ℕ → Type 0
RefusedMemoryBy reduction text = OrMemory (MayLackAtBy (text_in_lines reduction) text) (Err out_of_memory) (block_by reduction text)

abbrev pub LacksMemoryOf : Kinds → List ℕ → Type 0
LacksMemoryOf kinds text = RefusedMemoryBy (reads_reduction kinds text) text

-- what was read of a block is what it says, or its fault
abbrev pub ReadsBlockBy : Bool → List ℕ → Result RoomSpec SpecFault → Type 0
ReadsBlockBy reduction block (Ok room) = block_by reduction block ≡ Ok (room, length block)
ReadsBlockBy reduction block (Err fault) = block_by reduction block ≡ Err fault

abbrev pub ReadsBlock : Kinds → List ℕ → Result RoomSpec SpecFault → Type 0
ReadsBlock kinds block read = ReadsBlockBy (reads_reduction kinds block) block read
