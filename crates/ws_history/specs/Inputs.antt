-- The inputs of the processes, on which the simulators of a reduction agree, and the tasks that its runs keep.
use Rattle.std.specs.Prelude.{ℕ, Bool, true, false, List, Option, map}
use Rattle.std.specs.List.{range_with_len}
use Rattle.room_spec.specs.Rooms.{RoomSpec, is_reduction, processes, with_inputs}
use Rattle.transcript.specs.Reductions.{IsRunOf}
use Rattle.transcript.specs.Runs.{IsRun}
use Rattle.transcript.specs.Tasks.{KeepsTask}
use Rattle.transcript.specs.declared.event.Event.{Event}
use Rattle.room_core.specs.Agreements.{agreed_input}
use Rattle.room_core.specs.Fields.{Fields}

-- the input of each process that was agreed on, if a simulator has it; in an ordinary room there is none
abbrev pub inputs_of : RoomSpec → Fields → List (Option ℕ)
inputs_of spec fields = map (agreed_input spec fields) (range_with_len 0 (processes spec))

-- The events are a run of the room: in a reduction a run from some inputs that are the simulators' own.
abbrev pub IsRunBy : Bool → RoomSpec → List Event → Type 0
IsRunBy false spec events = IsRun spec events
IsRunBy true spec events = IsRunOf spec events

abbrev pub IsRoomRun : RoomSpec → List Event → Type 0
IsRoomRun spec events = IsRunBy (is_reduction spec) spec events

-- Each run of the reduction keeps the task: at most `most` different values are decided, each an input of the run.
abbrev pub DoRunsKeepTask : RoomSpec → ℕ → Type 0
DoRunsKeepTask spec most = (events : List Event) (run : IsRunOf spec events) → KeepsTask (with_inputs spec run.inputs) most events
