use Rattle.std.proofs.Common.{◌≡◌, ◌≤◌, take}
use Rattle.view_sample.specs.Counts.{once_in}
use Rattle.view_sample.proofs.counts.once_in.Given as goal

abbrev pub invariant-loop-index : goal.invariant-loop-index
invariant-loop-index l = (l.once ≡ once_in (take l.index l.outcomes)) × (l.once ≤ l.index)
