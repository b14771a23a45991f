-- What a transcript says of rooms, the line that breaks a room's run, and the line that breaks its task.
use Rattle.std.specs.Prelude.{◌≡◌, ℕ, Bool, true, false, List, map, take, Option, Some, None, slice_get, if◌then◌else◌}
use Rattle.std.specs.List.{All, Contains}
use Rattle.room_spec.specs.Rooms.{RoomSpec, is_reduction}
use Rattle.transcript.specs.Reductions.{IsFirstBreakOf, IsRunOf}
use Rattle.transcript.specs.Runs.{IsRun}
use Rattle.transcript.specs.declared.event.Event.{Event}
use Rattle.history_checker.specs.Verdicts.{FedEvent, events_of, fed_to, names_of}
use Rattle.history_checker.specs.Reasons.{IsBreak}
use Rattle.history_checker.specs.declared.reason.Reason.{Reason}
use Rattle.history_checker.specs.declared.reason.Reason.TheVariants.{NoProcess, OtherLength, OutOfTurn, OtherAction, WrongEntry, TooManyWrites}
use Rattle.transcript.specs.Tasks.{IsFirstExcess, decided_by, decided_in, different}
use Rattle.view_why.specs.declared.reported.Decision.{Decision}
use Rattle.view_why.specs.declared.reported.Excess.{Excess}
use Rattle.view_why.specs.declared.reported.LineBreak.{LineBreak}

-- a room, its events, and the line of each
pub record ReportedRoom : Type 0 where
  pub spec : RoomSpec
  pub events : List Event
  pub lines : List ℕ

-- ---- runs

-- the events are a run of a room, which is a reduction or isn't
abbrev pub IsRunBy : Bool → RoomSpec → List Event → Type 0
IsRunBy false spec events = IsRun spec events
IsRunBy true spec events = IsRunOf spec events

-- the events are a run of the room: of a reduction from some inputs of the simulators' own
abbrev pub IsRunIn : RoomSpec → List Event → Type 0
IsRunIn spec events = IsRunBy (is_reduction spec) spec events

-- the line of the write that a reason rests on, if it rests on one
abbrev pub line_of_write : List ℕ → Option Reason → Option ℕ
line_of_write lines None = None
line_of_write lines (Some NoProcess) = None
line_of_write lines (Some OtherLength) = None
line_of_write lines (Some (OutOfTurn next)) = None
line_of_write lines (Some (OtherAction asked)) = None
line_of_write lines (Some (WrongEntry q None)) = None
line_of_write lines (Some (WrongEntry q (Some last))) = slice_get lines last.at
line_of_write lines (Some TooManyWrites) = None

-- The event of this index is the first that may not follow those before it: in an ordinary room for this reason, in a reduction, where
-- none is named, because it may follow them from none of the simulators' own inputs.
abbrev pub IsBreakFor : RoomSpec → List Event → ℕ → Option Reason → Type 0
IsBreakFor spec events at None = (is_reduction spec ≡ true) × IsFirstBreakOf spec events at
IsBreakFor spec events at (Some reason) = (is_reduction spec ≡ false) × IsBreak spec events (record { at = at; reason = reason })

-- the event of this line is the first that may not follow those before it, for this reason, which rests on that line
pub record IsLineBreak (reported : ReportedRoom) (broken : LineBreak) : Type 0 where
  pub first : IsBreakFor reported.spec reported.events broken.at broken.reason
  pub line : slice_get reported.lines broken.at ≡ Some broken.line
  pub earlier : line_of_write reported.lines broken.reason ≡ broken.earlier

-- ---- decisions that a task doesn't allow

-- the inputs that the room's block gives: of the processes, or in a reduction of the simulators
abbrev pub given_inputs : RoomSpec → List ℕ
given_inputs spec = if is_reduction spec then spec.own else spec.inputs

-- the room by whose inputs its task is judged
abbrev pub judged_room : RoomSpec → RoomSpec
judged_room spec = record spec { inputs = given_inputs spec }

-- the event on this line is the first that decides what the room's task doesn't allow, which allows this many values
pub record IsExcess (reported : ReportedRoom) (excess : Excess) : Type 0 where
  pub task : reported.spec.task ≡ Some excess.most
  pub first : IsFirstExcess (judged_room reported.spec) excess.most reported.events excess.at
  pub line : slice_get reported.lines excess.at ≡ Some excess.line

-- an event on this line decides the value, and no event before it does
pub record IsFirstDecision (reported : ReportedRoom) (one : Decision) : Type 0 where
  pub at : ℕ
  pub event : Event
  pub there : slice_get reported.events at ≡ Some event
  pub decides : decided_by event ≡ Some one.value
  pub line : slice_get reported.lines at ≡ Some one.line
  pub first : Contains (decided_in (take at reported.events)) one.value → ⊥

-- these are the different values that were decided before the event of this index, in order, each with the line of its first decision
pub record AreDecidedBefore (reported : ReportedRoom) (at : ℕ) (before : List Decision) : Type 0 where
  pub values : map (λ one. one.value) before ≡ different (decided_in (take at reported.events))
  pub each : All (IsFirstDecision reported) before

-- ---- what is said of each of many rooms

abbrev pub lines_of : List FedEvent → List ℕ
lines_of fed = map (λ one. one.line) fed

-- these are the events of the room, each with its line
abbrev pub IsReported : List FedEvent → ReportedRoom → Type 0
IsReported fed reported = (reported.events ≡ events_of fed) × (reported.lines ≡ lines_of fed)

-- the same after all that a transcript says, of which the other rooms' part is passed over
abbrev pub IsReportedOwn : List FedEvent → ReportedRoom → Type 0
IsReportedOwn fed reported = IsReported (fed_to reported.spec.name fed) reported

-- the same of every room
abbrev pub AreReported : List ReportedRoom → List FedEvent → Type 0
AreReported rooms fed = All (IsReportedOwn fed) rooms

-- the rooms, in order
abbrev pub specs_of : List ReportedRoom → List RoomSpec
specs_of rooms = map (λ reported. reported.spec) rooms

-- the rooms of a map from their names, in its order
abbrev pub rooms_in : List (List ℕ × ReportedRoom) → List ReportedRoom
rooms_in entries = map (λ entry. entry.1) entries

-- each room is under its own name
abbrev pub IsKeyed : List (List ℕ × ReportedRoom) → Type 0
IsKeyed entries = map (λ entry. entry.0) entries ≡ names_of (specs_of (rooms_in entries))
