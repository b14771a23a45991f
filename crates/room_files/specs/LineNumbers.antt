-- The numbers that an input's lines have, over the whole input and from 1 on.
use Rattle.std.specs.Prelude.{◌≡◌, ◌≢◌, ◌⊎◌, ℕ, suc, true, false, List, [], ◌∷◌, ◌++◌, length, Some, None, Result, Ok, Err, codes}
use Rattle.std.specs.List.{flat_map}
use Rattle.room_spec.specs.Rooms.{RoomSpec}
use Rattle.room_spec.specs.Texts.{first_line}
use Rattle.room_spec.specs.Blocks.{block_len}
use Rattle.room_spec.specs.declared.fault.SpecFault.{SpecFault}
use Rattle.transcript.specs.Lines.{line_in}
use Rattle.transcript.specs.declared.event.Event.{Event}
use Rattle.history_checker.specs.Verdicts.{FedEvent, has_room}
use Rattle.room_files.specs.Kinds.{block_of}
use Rattle.room_files.specs.Lines.{text_lines}
use Rattle.room_files.specs.declared.kinds.Kinds.{Kinds}
use Rattle.room_files.specs.Blocks.{Setup, fault_text, refused_line}
use Rattle.room_files.specs.Faults.{FaultAt}
use Rattle.room_files.specs.declared.fault.TextFault.{TextFault}
use Rattle.room_files.specs.declared.fault.TextFault.TheVariants.{BadEvent, NoRoom, NoCommand, NoEvents}

-- the number of the line after these, which begin the input
abbrev pub number_after : List (List ℕ) → ℕ
number_after lines = suc (length lines)

-- ---- the blocks

-- a block that was refused: the number of its first line, and why
pub record Refusal : Type 0 where
  pub line : ℕ
  pub why : List ℕ

abbrev pub refusal_line : Refusal → List ℕ
refusal_line refusal = refused_line refusal.line refusal.why

-- the bytes of a block of the input, which end with its first line `end`; the line `events` begins none
pub record IsBlockText (block : List ℕ) : Type 0 where
  pub ends : block_len block ≡ Some (length block)
  pub other : first_line block ≢ codes "events"

-- The lines, which begin the input, are those of its first blocks; these rooms were opened, and these blocks refused.
pub data AreBlocks (kinds : Kinds) : List (List ℕ) → List RoomSpec → List Refusal → Type 0 where
  NoBlock : AreBlocks kinds [] [] []
  Opened : (lines : List (List ℕ)) (rooms : List RoomSpec) (refused : List Refusal) (block : List ℕ) (room : RoomSpec) (len : ℕ) → AreBlocks kinds lines rooms refused → IsBlockText block
      → block_of kinds block ≡ Ok (room, len) → has_room room.name rooms ≡ false → AreBlocks kinds (lines ++ text_lines block) (rooms ++ room ∷ []) refused
  NameTaken : (lines : List (List ℕ)) (rooms : List RoomSpec) (refused : List Refusal) (block : List ℕ) (room : RoomSpec) (len : ℕ) → AreBlocks kinds lines rooms refused → IsBlockText block
      → block_of kinds block ≡ Ok (room, len) → has_room room.name rooms ≡ true → AreBlocks kinds (lines ++ text_lines block) rooms (refused ++ record { line = number_after lines; why = codes "41" } ∷ [])
  Faulty : (lines : List (List ℕ)) (rooms : List RoomSpec) (refused : List Refusal) (block : List ℕ) (fault : SpecFault) → AreBlocks kinds lines rooms refused → IsBlockText block
      → block_of kinds block ≡ Err fault → AreBlocks kinds (lines ++ text_lines block) rooms (refused ++ record { line = number_after lines; why = fault_text fault } ∷ [])

-- ---- the event lines

-- After the lines `before`, which begin the input, come these lines, and each says an event of one of the rooms, with its own number.
pub data AreReported (rooms : List RoomSpec) (before : List (List ℕ)) : List (List ℕ) → List FedEvent → Type 0 where
  NoLine : AreReported rooms before [] []
  OneMore : (lines : List (List ℕ)) (fed : List FedEvent) (line name : List ℕ) (event : Event) → AreReported rooms before lines fed → line_in line ≡ Ok (name, event) → has_room name rooms ≡ true
      → AreReported rooms before (lines ++ line ∷ []) (fed ++ record { name = name; event = event; line = number_after (before ++ lines) } ∷ [])

-- the line is no event of one of the rooms: it has this fault
abbrev pub IsBadLine : List RoomSpec → List ℕ → TextFault → Type 0
IsBadLine rooms line (BadEvent fault) = line_in line ≡ Err fault
IsBadLine rooms line NoRoom = (read : List ℕ × Event) × (line_in line ≡ Ok read) × (has_room read.0 rooms ≡ false)
IsBadLine rooms line NoCommand = ⊥
IsBadLine rooms line NoEvents = ⊥

-- ---- the whole input

-- the lines that begin the input: those of its blocks and the line `events`
abbrev pub with_events : List (List ℕ) → List (List ℕ)
with_events blocks = blocks ++ codes "events" ∷ []

-- the input is its blocks, the line `events` and lines of events
pub record IsSaid (kinds : Kinds) (input : List ℕ) (setup : Setup) (fed : List FedEvent) : Type 0 where
  pub blocks : List (List ℕ)
  pub refused : List Refusal
  pub events : List (List ℕ)
  pub lines : text_lines input ≡ with_events blocks ++ events
  pub are_blocks : AreBlocks kinds blocks setup.rooms refused
  pub refused_lines : setup.refused ≡ flat_map refusal_line refused
  pub reported : AreReported setup.rooms (with_events blocks) events fed

-- the input is blocks and a rest with no line `end` and no line `events` before it; the number is one more than the number of all lines
pub record EndsEarly (kinds : Kinds) (input : List ℕ) (line : ℕ) (fault : TextFault) : Type 0 where
  pub fault_is : fault ≡ NoEvents
  pub number : line ≡ number_after (text_lines input)
  pub blocks : List (List ℕ)
  pub rooms : List RoomSpec
  pub refused : List Refusal
  pub rest : List ℕ
  pub lines : text_lines input ≡ blocks ++ text_lines rest
  pub are_blocks : AreBlocks kinds blocks rooms refused
  pub no_end : block_len rest ≡ None
  pub no_events : first_line rest ≢ codes "events"

-- the input is its blocks, the line `events`, lines of events, and this line, which is the first that is none
pub record HasBadLine (kinds : Kinds) (input : List ℕ) (line : ℕ) (fault : TextFault) : Type 0 where
  pub blocks : List (List ℕ)
  pub rooms : List RoomSpec
  pub refused : List Refusal
  pub events : List (List ℕ)
  pub fed : List FedEvent
  pub bad : List ℕ
  pub more : List (List ℕ)
  pub lines : text_lines input ≡ with_events blocks ++ (events ++ bad ∷ more)
  pub are_blocks : AreBlocks kinds blocks rooms refused
  pub reported : AreReported rooms (with_events blocks) events fed
  pub number : line ≡ number_after (with_events blocks ++ events)
  pub why : IsBadLine rooms bad fault

-- what an input says, or the number and the fault of its first malformed line, by its lines
abbrev pub IsNumbered : Kinds → List ℕ → Result (Setup × List FedEvent) FaultAt → Type 0
IsNumbered kinds input (Ok (setup, fed)) = IsSaid kinds input setup fed
IsNumbered kinds input (Err (line, fault)) = EndsEarly kinds input line fault ⊎ HasBadLine kinds input line fault
