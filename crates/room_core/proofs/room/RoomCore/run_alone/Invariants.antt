use Rattle.room_core.proofs.settling.Alone.{has_step, has_step_means, left}
use Rattle.room_core.proofs.settling.Observed.{IsRunning}
use Rattle.room_core.proofs.room.RoomCore.run_alone.Given as goal

abbrev pub invariant-loop : goal.invariant-loop
invariant-loop g l = IsRunning g.W.Observer.sees has_step l.i (has_step_means l.i) l.initial.self l.initial.observer l.self l.observer

abbrev pub decreases-loop : goal.decreases-loop
decreases-loop g l = left l.self l.i
