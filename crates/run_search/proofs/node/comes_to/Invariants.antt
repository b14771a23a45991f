use Rattle.std.proofs.Common.{ℕ, ◌+◌, ◌-◌, ◌*◌}
use Rattle.run_search.specs.Nodes.{GoesAlone, IsWithinRounds}
use Rattle.run_search.specs.States.{events_of}
use Rattle.run_search.proofs.node.comes_to.Given as goal

abbrev pub invariant-loop-to : goal.invariant-loop-to
invariant-loop-to l = record {
  rounds : IsWithinRounds l.spec l.now;
  reached : (steps : ℕ) × GoesAlone l.spec l.row.items l.p steps l.fn.from l.now;
  left : (steps : ℕ) → GoesAlone l.spec l.row.items l.p steps l.fn.from l.to → (less : ℕ) × GoesAlone l.spec l.row.items l.p less l.now l.to;
}

abbrev pub decreases-loop-to : goal.decreases-loop-to
decreases-loop-to l = 2 * l.spec.rounds + 3 - events_of l.now
