use Rattle.std.proofs.Common.{arith}
use Rattle.room_sample.specs.Chances.{random_in}
use Rattle.room_sample.proofs.Uniform.{drawn_below}
use Rattle.room_sample.proofs.chances.Chances.below.Goals as goal

pub returns-clause-drawn : goal.returns-clause-drawn
returns-clause-drawn c = drawn_below c.args.count c.random_range.result (random_in c.args.self.now) (random_in (record { random = c.random_range.new.self })) (omega (arith, c.ranges.count.fits)) c.random_range.ensures.drawn
