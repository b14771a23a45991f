use Rattle.room_core.proofs.settling.Alone.{in_turn, in_turn_means, left}
use Rattle.room_core.proofs.settling.Observed.{IsRunning}
use Rattle.room_core.proofs.room.RoomCore.finish_turn.Given as goal

abbrev pub invariant-loop-observer : goal.invariant-loop-observer
invariant-loop-observer g l = IsRunning g.W.Observer.sees in_turn l.i (in_turn_means l.i) l.initial.self l.initial.observer l.self l.observer

abbrev pub decreases-loop-observer : goal.decreases-loop-observer
decreases-loop-observer g l = left l.self l.i
