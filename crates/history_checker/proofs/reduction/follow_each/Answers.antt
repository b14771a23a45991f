use Rattle.std.proofs.Common.{refl}
use Rattle.history_checker.proofs.Own.{breaks_at}
use Rattle.history_checker.proofs.reduction.follow_each.Goals as goal

pub returns-then-not-follow_some : goal.returns-then-not-follow_some
returns-then-not-follow_some c = breaks_at c.args.spec.now c.loop-t.processes c.args.events.now c.loop-t.t c.index-events-t.result c.loop-t-test.true c.loop-t.invariant (rw (← c.index-events-t.is) c.if-not-follow_some.ensures)
