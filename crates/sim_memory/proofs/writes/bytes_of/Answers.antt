use Rattle.sim_memory.proofs.Apart.{low_byte, high_byte}
use Rattle.std.proofs.Common.{arith}
use Rattle.sim_memory.proofs.writes.bytes_of.Goals as goal

pub returns-clause-low : goal.returns-clause-low
returns-clause-low c p below = low_byte c.args.low c.args.high p (omega arith) (omega arith) below

pub returns-clause-high : goal.returns-clause-high
returns-clause-high c p below = high_byte c.args.low c.args.high p (omega arith) (omega arith) below
