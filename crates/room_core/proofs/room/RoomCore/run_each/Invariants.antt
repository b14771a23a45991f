use Rattle.room_core.specs.Settling.{ran_alone}
use Rattle.room_core.specs.Observing.{traced_kind}
use Rattle.room_core.proofs.settling.Observed.{IsInOrder}
use Rattle.room_core.proofs.room.RoomCore.run_each.Given as goal

abbrev pub invariant-loop-i : goal.invariant-loop-i
invariant-loop-i g l = IsInOrder g.W.Observer.sees (ran_alone traced_kind) l.i l.initial.self l.initial.observer l.self l.observer
