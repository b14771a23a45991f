-- Where following the events of a room ends.
use Rattle.std.specs.Prelude.{◌≡◌, List, Some, slice_get, take}
use Rattle.room_spec.specs.Rooms.{RoomSpec}
use Rattle.transcript.specs.declared.event.Event.{Event}
use Rattle.transcript.specs.Runs.{IsRun}
use Rattle.history_checker.specs.declared.history.Misfit.{Misfit}
use Rattle.history_checker.specs.declared.process.Process.{Process}
use Rattle.history_checker.specs.Processes.{Tracks}
use Rattle.history_checker.specs.Reasons.{Breaks}

-- the events before this one are a run, which the processes track, and this one breaks this rule
pub record IsMisfit (spec : RoomSpec) (events : List Event) (processes : List Process) (misfit : Misfit) : Type 0 where
  pub event : Event
  pub there : slice_get events misfit.at ≡ Some event
  pub breaks : Breaks spec (take misfit.at events) event misfit.rule
  pub run_before : IsRun spec (take misfit.at events)
  pub tracks : Tracks spec processes (take misfit.at events)
