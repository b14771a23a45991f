use Rattle.service_core.proofs.Stepping.{IsOnTheWay}
use Rattle.service_core.proofs.room.steps_observed.Given as goal

abbrev pub invariant-loop-taken : goal.invariant-loop-taken
invariant-loop-taken g l = IsOnTheWay g.W.Observer.sees l.i l.count l.initial.room l.initial.observer l.taken l.room l.observer
