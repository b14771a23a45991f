use Rattle.std.proofs.Common.{ℕ, ◌+◌, ◌-◌, ◌*◌}
use Rattle.std.specs.List.{Contains}
use Rattle.run_search.specs.Nodes.{AreIn, GoesAlone, IsSetClosed, IsWithinRounds}
use Rattle.run_search.proofs.Closing.{ComeFrom, IsClosedBut}
use Rattle.run_search.specs.States.{events_of}
use Rattle.run_search.proofs.node.go_on.Given as goal

abbrev pub invariant-loop-new : goal.invariant-loop-new
invariant-loop-new l = record {
  rounds : IsWithinRounds l.spec l.now;
  there : Contains l.set.items l.fn.local;
  kept : AreIn l.fn.set.items l.set.items;
  reached : (steps : ℕ) × GoesAlone l.spec l.row.items l.p steps l.fn.local l.now;
  come : ComeFrom l.spec l.row.items l.p l.fn.set.items l.fn.local l.set.items;
  closed : IsSetClosed l.spec l.row.items l.p l.fn.set.items → IsClosedBut l.spec l.row.items l.p l.set.items l.now;
}

abbrev pub decreases-loop-new : goal.decreases-loop-new
decreases-loop-new l = 2 * l.spec.rounds + 3 - events_of l.now
