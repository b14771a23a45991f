use Rattle.std.proofs.Common.{◌≡◌, ◌+◌, ◌≤◌, drop}
use Rattle.view_outcomes.specs.Counts.{values_in}
use Rattle.view_outcomes.proofs.counts.values_in.Given as goal

abbrev pub invariant-loop-at : goal.invariant-loop-at
invariant-loop-at l = (l.count ≤ l.at) × (l.count + values_in (drop l.at l.ends) ≡ values_in l.ends)
