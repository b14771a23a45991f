-- Verdicts on rooms, whose events come one by one and with those of other rooms between.
use Rattle.std.specs.Prelude.{◌≡◌, ℕ, Bool, List, [], ◌∷◌, ◌++◌, map, Option, Some, None, slice_get, codes}
use Rattle.std.specs.List.{All, filter, list_any}
use Rattle.std.specs.Str.{bytes_eq}
use Rattle.room_spec.specs.Rooms.{RoomSpec}
use Rattle.transcript.specs.declared.event.Event.{Event}
use Rattle.transcript.specs.Faults.{code_of as line_code, sentence_of as line_sentence}
use Rattle.transcript.specs.Runs.{IsRun, IsFirstBreak}
use Rattle.transcript.specs.Tasks.{IsFirstExcess, KeepsTask}
use Rattle.history_checker.specs.declared.process.Process.{Process}
use Rattle.history_checker.specs.declared.verdict.Verdict.{Verdict}
use Rattle.history_checker.specs.declared.verdict.Verdict.TheVariants.{Run, Broken}
use Rattle.history_checker.specs.declared.fault.AddFault.{AddFault}
use Rattle.history_checker.specs.declared.fault.AddFault.TheVariants.{NameTaken, OutOfMemory}
use Rattle.history_checker.specs.declared.fault.FeedFault.{FeedFault}
use Rattle.history_checker.specs.declared.fault.FeedFault.TheVariants.{BadLine, NoRoom}
use Rattle.history_checker.specs.declared.verdict.TaskVerdict.{TaskVerdict}
use Rattle.history_checker.specs.declared.verdict.TaskVerdict.TheVariants as tasks
use Rattle.history_checker.specs.Processes.{Tracks}
use Rattle.history_checker.specs.Tasks.{IsTally, TallyState}

-- an event that was fed, of which room, and on which line
pub record FedEvent : Type 0 where
  pub name : List ℕ
  pub event : Event
  pub line : ℕ

abbrev pub events_of : List FedEvent → List Event
events_of fed = map (λ one. one.event) fed

-- what was fed of one room
abbrev pub fed_to : List ℕ → List FedEvent → List FedEvent
fed_to name fed = filter (λ one. bytes_eq name one.name) fed

-- the first event that may not follow those before it was fed on this line
pub record BreaksOn (spec : RoomSpec) (fed : List FedEvent) (line : ℕ) : Type 0 where
  pub place : ℕ
  pub first : IsFirstBreak spec (events_of fed) place
  pub one : FedEvent
  pub there : slice_get fed place ≡ Some one
  pub line_is : one.line ≡ line

-- the verdict on what was fed of a room
abbrev pub IsVerdict : RoomSpec → List FedEvent → Verdict → Type 0
IsVerdict spec fed Run = IsRun spec (events_of fed)
IsVerdict spec fed (Broken line) = BreaksOn spec fed line

-- the first decision that the task doesn't allow was fed on this line
pub record ExceedsOn (spec : RoomSpec) (most : ℕ) (fed : List FedEvent) (line : ℕ) : Type 0 where
  pub place : ℕ
  pub first : IsFirstExcess spec most (events_of fed) place
  pub one : FedEvent
  pub there : slice_get fed place ≡ Some one
  pub line_is : one.line ≡ line

-- the answer on a room's task after what was fed of the room: there is none, it holds, or it is broken
abbrev pub IsTaskAnswer : RoomSpec → List FedEvent → Option TaskVerdict → Type 0
IsTaskAnswer spec fed None = spec.task ≡ None
IsTaskAnswer spec fed (Some tasks.Holds) = (most : ℕ) × (spec.task ≡ Some most) × KeepsTask spec most (events_of fed)
IsTaskAnswer spec fed (Some (tasks.Broken line)) = (most : ℕ) × (spec.task ≡ Some most) × ExceedsOn spec most fed line

-- ---- what is kept of a room

pub record RoomState : Type 0 where
  pub spec : RoomSpec
  pub processes : List Process
  -- the line of the first event that may not follow those before it
  pub broken : Option ℕ
  -- of its task, if it has one
  pub tally : Option TallyState

abbrev pub StandsAfter : RoomState → List FedEvent → Option ℕ → Type 0
StandsAfter room fed None = IsRun room.spec (events_of fed) × Tracks room.spec room.processes (events_of fed)
StandsAfter room fed (Some line) = BreaksOn room.spec fed line

abbrev pub TallyStands : RoomSpec → ℕ → List FedEvent → List ℕ → Option ℕ → Type 0
TallyStands spec most fed decided None = KeepsTask spec most (events_of fed) × IsTally most (events_of fed) decided
TallyStands spec most fed decided (Some line) = ExceedsOn spec most fed line

abbrev pub TaskStands : RoomSpec → List FedEvent → Option ℕ → Option TallyState → Type 0
TaskStands spec fed None tally = tally ≡ None
TaskStands spec fed (Some most) None = ⊥
TaskStands spec fed (Some most) (Some tally) = TallyStands spec most fed tally.decided tally.excess

-- What was so of a room after any events of it is so of the room as it then is after one more, this one on this line.
abbrev pub StaysSo : Event → ℕ → (List FedEvent → Type 0) → (List FedEvent → Type 0) → Type 0
StaysSo event line Before After = (fed : List FedEvent) (one : FedEvent) → one.event ≡ event → one.line ≡ line → Before fed → After (fed ++ one ∷ [])

-- what is kept of the room is so after these events of it
abbrev pub IsAfter : List FedEvent → RoomState → Type 0
IsAfter fed room = StandsAfter room fed room.broken × TaskStands room.spec fed room.spec.task room.tally

-- the same after all that was fed, of which the other rooms' part is passed over
abbrev pub HasProcessedOwn : List FedEvent → RoomState → Type 0
HasProcessedOwn fed room = IsAfter (fed_to room.spec.name fed) room

-- the same of every room
abbrev pub HasProcessed : List RoomState → List FedEvent → Type 0
HasProcessed rooms fed = All (HasProcessedOwn fed) rooms

-- the rooms, in order
abbrev pub specs_of : List RoomState → List RoomSpec
specs_of rooms = map (λ room. room.spec) rooms

abbrev pub names_of : List RoomSpec → List (List ℕ)
names_of specs = map (λ spec. spec.name) specs

abbrev pub has_room : List ℕ → List RoomSpec → Bool
has_room name specs = list_any (bytes_eq name) (names_of specs)

-- the numbers of the faults of adding a room, and what they say
abbrev pub add_code : AddFault → ℕ
add_code NameTaken = 41
add_code OutOfMemory = 8

unfoldable pub add_sentence : AddFault → List ℕ
add_sentence NameTaken = codes "a room has this name already"
add_sentence OutOfMemory = codes "out of memory"

unfoldable pub no_room_sentence : List ℕ
no_room_sentence = codes "no room has this name"

-- the numbers of the faults of feeding a line, and what they say
abbrev pub feed_code : FeedFault → ℕ
feed_code (BadLine fault) = line_code fault
feed_code (NoRoom none) = 40

unfoldable pub feed_sentence : FeedFault → List ℕ
feed_sentence (BadLine fault) = line_sentence fault
feed_sentence (NoRoom none) = no_room_sentence

-- the rooms of a map from their names, in its order
abbrev pub rooms_in : List (List ℕ × RoomState) → List RoomState
rooms_in entries = map (λ entry. entry.1) entries

-- each room is under its own name
abbrev pub IsKeyed : List (List ℕ × RoomState) → Type 0
IsKeyed entries = map (λ entry. entry.0) entries ≡ names_of (specs_of (rooms_in entries))
