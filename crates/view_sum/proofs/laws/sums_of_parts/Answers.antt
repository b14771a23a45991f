use Rattle.view_sum.proofs.Counting.{sums_of_parts}
use Rattle.view_sum.proofs.laws.sums_of_parts.Goals as goal

pub returns : goal.returns
returns c = sums_of_parts
