-- Why an event may not follow those before it: the first of the conditions on it that fails, in the words of what a run is, and what
-- would have been right.
use Rattle.std.specs.Prelude.{◌≡◌, ℕ, ◌+◌, ◌<◌, List, drop, length, take, Option, Some, None, slice_get, slice_index_or}
use Rattle.std.specs.List.{count_by}
use Rattle.protocol_lang.specs.declared.meaning.Action.TheVariants as actions
use Rattle.room_spec.specs.Rooms.{RoomSpec, processes}
use Rattle.transcript.specs.declared.event.Event.{Event}
use Rattle.transcript.specs.declared.event.Event.TheVariants.{Write, Snap, Decide}
use Rattle.transcript.specs.Runs.{process_of, event_by, is_write_by, latest, last_write, action_due, IsNothingOrSnap, IsSnap, IsWrite, MayWrite, MaySnap, MayDecide, IsEnabled, IsFirstBreak}
use Rattle.history_checker.specs.declared.process.Rule.{Rule}
use Rattle.history_checker.specs.declared.process.Rule.TheVariants as rules
use Rattle.history_checker.specs.declared.process.Turn.{Turn}
use Rattle.history_checker.specs.declared.process.Turn.TheVariants as turns
use Rattle.history_checker.specs.declared.reason.Break.{Break}
use Rattle.history_checker.specs.declared.reason.LastWrite.{LastWrite}
use Rattle.history_checker.specs.declared.reason.Reason.{Reason}
use Rattle.history_checker.specs.declared.reason.Reason.TheVariants.{NoProcess, OtherLength, OutOfTurn, OtherAction, WrongEntry, TooManyWrites}

-- ---- the conditions on an event, which are those of MayWrite, MaySnap and MayDecide

-- a snapshot has an entry for each process
abbrev pub HasWidth : RoomSpec → Event → Type 0
HasWidth spec (Write p v) = Unit {0}
HasWidth spec (Snap p row) = length row.items ≡ processes spec
HasWidth spec (Decide p v) = Unit {0}

-- an event of its kind may come of its process now
abbrev pub IsInTurn : List Event → Event → Type 0
IsInTurn before (Write p v) = IsNothingOrSnap (latest (event_by p) before)
IsInTurn before (Snap p row) = IsWrite (latest (event_by p) before)
IsInTurn before (Decide p v) = IsSnap (latest (event_by p) before)

-- a write or a decision is what the protocol asks for
abbrev pub IsAsked : RoomSpec → List Event → Event → Type 0
IsAsked spec before (Write p v) = action_due spec before p ≡ actions.Write v
IsAsked spec before (Snap p row) = Unit {0}
IsAsked spec before (Decide p v) = action_due spec before p ≡ actions.Decide v

-- a snapshot's entry q is that process's last write, or nothing
abbrev pub ShowsLast : List Event → Event → ℕ → Type 0
ShowsLast before (Write p v) q = Unit {0}
ShowsLast before (Snap p row) q = slice_index_or row.items q None ≡ last_write before q
ShowsLast before (Decide p v) q = Unit {0}

-- a write is within the rounds
abbrev pub IsWithinRounds : RoomSpec → List Event → Event → Type 0
IsWithinRounds spec before (Write p v) = count_by (is_write_by p) before < spec.rounds
IsWithinRounds spec before (Snap p row) = Unit {0}
IsWithinRounds spec before (Decide p v) = Unit {0}

-- ---- the first that fails

abbrev pub FitsRoom : RoomSpec → Event → Type 0
FitsRoom spec event = (process_of event < processes spec) × HasWidth spec event

abbrev pub IsDue : RoomSpec → List Event → Event → Type 0
IsDue spec before event = FitsRoom spec event × IsInTurn before event × IsAsked spec before event

-- this is the first rule that the event breaks
abbrev pub Breaks : RoomSpec → List Event → Event → Rule → Type 0
Breaks spec before event rules.Process = process_of event < processes spec → ⊥
Breaks spec before event rules.Length = (process_of event < processes spec) × (HasWidth spec event → ⊥)
Breaks spec before event rules.Turn = FitsRoom spec event × (IsInTurn before event → ⊥)
Breaks spec before event rules.Action = FitsRoom spec event × IsInTurn before event × (IsAsked spec before event → ⊥)
Breaks spec before event (rules.Entry q) =
    IsDue spec before event × (q < processes spec) × ((r : ℕ) → r < q → ShowsLast before event r) × (ShowsLast before event q → ⊥)
Breaks spec before event rules.Rounds =
    IsDue spec before event × ((q : ℕ) → q < processes spec → ShowsLast before event q) × (IsWithinRounds spec before event → ⊥)

-- ---- what would have been right

-- this may come of process p after these events
abbrev pub MayDo : RoomSpec → List Event → ℕ → Turn → Type 0
MayDo spec before p (turns.Write v) = MayWrite spec before p v
MayDo spec before p turns.Snap = (row : List (Option ℕ)) × MaySnap spec before p row
MayDo spec before p (turns.Decide v) = MayDecide spec before p v
MayDo spec before p turns.Over = (event : Event) → process_of event ≡ p → IsEnabled spec before event → ⊥

-- the last of these events that is a write of process q
pub record IsLastWriteAt (before : List Event) (q : ℕ) (last : LastWrite) : Type 0 where
  pub value : last_write before q ≡ Some last.value
  pub there : slice_get before last.at ≡ Some (Write q last.value)
  pub none_later : last_write (drop (last.at + 1) before) q ≡ None

-- what process q wrote last, and where, or nothing
abbrev pub IsLastWrite : List Event → ℕ → Option LastWrite → Type 0
IsLastWrite before q None = last_write before q ≡ None
IsLastWrite before q (Some last) = IsLastWriteAt before q last

-- ---- the reason

-- this is why the event may not follow those before it
abbrev pub IsReason : RoomSpec → List Event → Event → Reason → Type 0
IsReason spec before event NoProcess = Breaks spec before event rules.Process
IsReason spec before event OtherLength = Breaks spec before event rules.Length
IsReason spec before event (OutOfTurn next) = Breaks spec before event rules.Turn × MayDo spec before (process_of event) next
IsReason spec before event (OtherAction asked) = Breaks spec before event rules.Action × (action_due spec before (process_of event) ≡ asked)
IsReason spec before event (WrongEntry q written) = Breaks spec before event (rules.Entry q) × IsLastWrite before q written
IsReason spec before event TooManyWrites = Breaks spec before event rules.Rounds

-- the events are no run from this place on, for this reason
pub record IsBreak (spec : RoomSpec) (events : List Event) (broken : Break) : Type 0 where
  pub first : IsFirstBreak spec events broken.at
  pub reason : IsReason spec (take broken.at events) first.event broken.reason
