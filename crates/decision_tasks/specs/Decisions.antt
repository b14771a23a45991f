-- What the processes have decided.
use Rattle.std.specs.Prelude.{ℕ, List, map, take, Option, Some, None, replicate, slice_set}
use Rattle.room_spec.specs.Rooms.{RoomSpec}
use Rattle.transcript.specs.declared.event.Event.{Event}
use Rattle.transcript.specs.Runs.{process_of}
use Rattle.transcript.specs.Tasks as tasks
use Rattle.run_search.specs.declared.ended.Ended.{Ended}
use Rattle.run_search.specs.declared.ended.Ended.TheVariants.{Decided, Spent, Stopped}
use Rattle.run_search.specs.Outcomes.{outcome_of}

abbrev pub decision : Ended → Option ℕ
decision (Decided v) = Some v
decision Spent = None
decision Stopped = None

abbrev pub decisions : List Ended → List (Option ℕ)
decisions ends = map decision ends

-- what each process has decided, if it has, once the first t of these events have happened
abbrev pub decided_by : RoomSpec → List Event → ℕ → List (Option ℕ)
decided_by spec events t = decisions (outcome_of spec (take t events))

-- ---- event by event

-- no process has decided
abbrev pub none_decided : ℕ → List (Option ℕ)
none_decided n = replicate n None

-- what each process has decided after one more event
abbrev pub noted : List (Option ℕ) → Event → List (Option ℕ)
noted decisions event = slice_set decisions (process_of event) (tasks.decided_by event)
