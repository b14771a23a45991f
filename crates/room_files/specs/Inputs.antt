-- What an input says: blocks, and where it is a transcript the events after them.
use Rattle.std.specs.Prelude.{◌≡◌, ◌⊎◌, ℕ, ◌+◌, false, List, [], ◌∷◌, ◌++◌, length, suc, zero, take, drop, Option, Some, None, IsSome, Result, Ok, Err, IsOk, if◌then◌else◌, codes}
use Rattle.std.specs.Str.{bytes_eq}
use Rattle.room_spec.specs.Rooms.{RoomSpec}
use Rattle.room_spec.specs.Texts.{first_line, later_lines}
use Rattle.room_spec.specs.Blocks.{block_len}
use Rattle.transcript.specs.Lines.{line_in}
use Rattle.transcript.specs.declared.event.Event.{Event}
use Rattle.transcript.specs.declared.fault.LineFault.{LineFault}
use Rattle.history_checker.specs.Verdicts.{FedEvent, has_room}
use Rattle.room_files.specs.Blocks.{Setup, after_block, block_extent, no_blocks, pass_lines}
use Rattle.room_files.specs.Faults.{FaultAt, text_code}
use Rattle.room_files.specs.Lines.{text_lines}
use Rattle.room_files.specs.declared.kinds.Kinds.{Kinds}
use Rattle.room_files.specs.declared.fault.TextFault.TheVariants.{BadEvent, NoEvents, NoRoom}

-- ---- the blocks

-- what ends the input early, with the number after the last line
abbrev pub ended_early : Setup → List ℕ → Result (Setup × List ℕ) FaultAt
ended_early setup rest = Err (setup.line + length (text_lines rest), NoEvents)

abbrev pub next_block : (Setup → List ℕ → Result (Setup × List ℕ) FaultAt) → Kinds → Setup → List ℕ → Option ℕ → Result (Setup × List ℕ) FaultAt
next_block later kinds setup rest None = ended_early setup rest
next_block later kinds setup rest (Some len) = later (after_block kinds setup (take len rest)) (drop len rest)

-- the blocks up to the line `events`, at most this many, and the text after it
unfoldable pub blocks_from : Kinds → ℕ → Setup → List ℕ → Result (Setup × List ℕ) FaultAt
blocks_from kinds zero setup rest = ended_early setup rest
blocks_from kinds (suc most) setup rest =
    if bytes_eq (first_line rest) (codes "events") then Ok (pass_lines 1 setup, later_lines rest)
    else next_block (blocks_from kinds most) kinds setup rest (block_len rest)

-- an input has fewer blocks than bytes
abbrev pub blocks_in : Kinds → List ℕ → Result (Setup × List ℕ) FaultAt
blocks_in kinds input = blocks_from kinds (suc (length input)) no_blocks input

-- the input begins with a block, which takes memory
abbrev pub BeginsWithBlock : List ℕ → Type 0
BeginsWithBlock input = (bytes_eq (first_line input) (codes "events") ≡ false) × IsSome (block_len input)

-- ---- the events

abbrev pub of_known_room : List RoomSpec → ℕ → Result (List ℕ × Event) LineFault → Result FedEvent FaultAt
of_known_room rooms line (Err fault) = Err (line, BadEvent fault)
of_known_room rooms line (Ok read) = if has_room read.0 rooms then Ok (record { name = read.0; event = read.1; line = line }) else Err (line, NoRoom)

abbrev pub then_fed : (List FedEvent → Result (List FedEvent) FaultAt) → List FedEvent → Result FedEvent FaultAt → Result (List FedEvent) FaultAt
then_fed later fed (Ok one) = later (fed ++ one ∷ [])
then_fed later fed (Err fault) = Err fault

-- what was fed so far, and what these lines say, the first of which has this number
unfoldable pub fed_from : List RoomSpec → List FedEvent → ℕ → List (List ℕ) → Result (List FedEvent) FaultAt
fed_from rooms fed line [] = Ok fed
fed_from rooms fed line (text ∷ texts) = then_fed (λ so_far. fed_from rooms so_far (line + 1) texts) fed (of_known_room rooms line (line_in text))

abbrev pub with_fed : Setup → Result (List FedEvent) FaultAt → Result (Setup × List FedEvent) FaultAt
with_fed setup (Ok fed) = Ok (setup, fed)
with_fed setup (Err fault) = Err fault

abbrev pub later_events : Result (Setup × List ℕ) FaultAt → Result (Setup × List FedEvent) FaultAt
later_events (Ok read) = with_fed read.0 (fed_from read.0.rooms [] read.0.line (text_lines read.1))
later_events (Err fault) = Err fault

-- what an input says: its blocks and its events, or its first fault and the line of that
abbrev pub input_says : Kinds → List ℕ → Result (Setup × List FedEvent) FaultAt
input_says kinds input = later_events (blocks_in kinds input)

-- the same with the number of the fault
abbrev pub with_code : {A : Type 0} → Result A FaultAt → Result A (ℕ × ℕ)
with_code (Ok read) = Ok read
with_code (Err fault) = Err (fault.0, text_code fault.1)

-- memory may be refused to a block, and to the output for an input that has no fault
abbrev pub MayLackMemory : Kinds → List ℕ → Type 0
MayLackMemory kinds input = BeginsWithBlock input ⊎ IsOk (input_says kinds input)

-- ---- an input that has only blocks

-- what the blocks of a text say after those before it, at most this many; if it has no line `end`, all of it is a block
unfoldable pub all_blocks_from : Kinds → ℕ → Setup → List ℕ → Setup
all_blocks_from kinds zero setup text = setup
all_blocks_from kinds (suc most) setup [] = setup
all_blocks_from kinds (suc most) setup (byte ∷ bytes) =
    let text = byte ∷ bytes in
    all_blocks_from kinds most (after_block kinds setup (take (block_extent text) text)) (drop (block_extent text) text)

-- an input has no more blocks than bytes
abbrev pub all_blocks : Kinds → List ℕ → Setup
all_blocks kinds input = all_blocks_from kinds (length input) no_blocks input
