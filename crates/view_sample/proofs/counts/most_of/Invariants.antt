use Rattle.std.proofs.Common.{◌≡◌, take}
use Rattle.view_sample.specs.Counts.{held_in, most_of, values_in}
use Rattle.view_sample.proofs.counts.most_of.Given as goal

abbrev pub invariant-loop-index : goal.invariant-loop-index
invariant-loop-index l = (l.values ≡ most_of values_in (take l.index l.outcomes)) × (l.held ≡ most_of held_in (take l.index l.outcomes))
