use Rattle.room_core.specs.Settling.{turn_ended}
use Rattle.room_core.specs.Observing.{traced_kind}
use Rattle.room_core.proofs.settling.Observed.{IsInOrder}
use Rattle.room_core.proofs.room.RoomCore.finish_turns.Given as goal

abbrev pub invariant-loop-i : goal.invariant-loop-i
invariant-loop-i g l = IsInOrder g.W.Observer.sees (turn_ended traced_kind) l.i l.initial.self l.initial.observer l.self l.observer
