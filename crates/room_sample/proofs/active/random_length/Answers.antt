use Rattle.std.proofs.Common.{arith}
use Rattle.room_sample.proofs.Drawing.{pow_few}
use Rattle.room_sample.proofs.active.random_length.Goals as goal

pub returns-clause-few : goal.returns-clause-few
returns-clause-few c = let few = pow_few c.below-most.result c.below-most.ensures.within in omega (arith, few, c.below.ensures.within)
