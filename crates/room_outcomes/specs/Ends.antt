-- The states of a room's processes, as an outcome of a run.
use Rattle.std.specs.Prelude.{ℕ, Bool, true, false, List, map}
use Rattle.room_spec.specs.Rooms.{RoomSpec, is_reduction, with_inputs}
use Rattle.transcript.specs.Reductions.{AreFromOwn}
use Rattle.ws_history.specs.declared.states.ProcessState.{ProcessState}
use Rattle.ws_history.specs.declared.states.ProcessState.TheVariants as states
use Rattle.run_search.specs.Outcomes.{IsRunOutcome}
use Rattle.run_search.specs.declared.ended.Ended.{Ended}
use Rattle.run_search.specs.declared.ended.Ended.TheVariants.{Decided, Spent, Stopped}

-- one that is held or going on counts as stopped
abbrev pub end_of : ProcessState → Ended
end_of (states.Decided v) = Decided v
end_of states.Spent = Spent
end_of (states.Held i) = Stopped
end_of states.Going = Stopped

abbrev pub ends_of : List ProcessState → List Ended
ends_of all = map end_of all

-- The outcome is one of a run of the room's protocol, in which at most `crashes` processes stop: in a reduction of a run from inputs that are the simulators' own.
abbrev pub IsOutcomeBy : Bool → RoomSpec → ℕ → List Ended → Type 0
IsOutcomeBy false spec crashes outcome = IsRunOutcome spec crashes outcome
IsOutcomeBy true spec crashes outcome = (inputs : List ℕ) × AreFromOwn spec inputs × IsRunOutcome (with_inputs spec inputs) crashes outcome

abbrev pub IsRoomOutcome : RoomSpec → ℕ → List Ended → Type 0
IsRoomOutcome spec crashes outcome = IsOutcomeBy (is_reduction spec) spec crashes outcome
