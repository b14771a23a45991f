use Rattle.sim_memory.proofs.Greatest.{holder_of_is, holder_is, holder_merged}
use Rattle.sim_memory.proofs.laws.holds.Goals as goal

pub returns-clause-is : goal.returns-clause-is
returns-clause-is c = λ m steps p some. holder_of_is m steps p some

pub returns-clause-only : goal.returns-clause-only
returns-clause-only c = λ m steps p holder is. holder_is m steps p holder is

pub returns-clause-merged : goal.returns-clause-merged
returns-clause-merged c = λ m steps p holder is. holder_merged m steps p holder is
