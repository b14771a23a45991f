use Rattle.sim_memory.proofs.Rows.{row_same, merged_same, holder_same}
use Rattle.sim_memory.proofs.laws.same_steps.Goals as goal

pub returns-clause-row : goal.returns-clause-row
returns-clause-row c = λ m n steps others same. row_same m n steps others same

pub returns-clause-merged : goal.returns-clause-merged
returns-clause-merged c = λ m n steps others p below same. merged_same m n steps others p below same

pub returns-clause-holder : goal.returns-clause-holder
returns-clause-holder c = λ m n steps others p some below same. holder_same m n steps others p some below same
