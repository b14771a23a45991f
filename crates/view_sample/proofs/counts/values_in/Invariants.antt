use Rattle.std.proofs.Common.{◌≡◌, ◌+◌, ◌≤◌, drop}
use Rattle.view_sample.specs.Counts.{values_in}
use Rattle.view_sample.proofs.counts.values_in.Given as goal

abbrev pub invariant-loop-at : goal.invariant-loop-at
invariant-loop-at l = (l.count ≤ l.at) × (l.count + values_in (drop l.at l.states) ≡ values_in l.states)
