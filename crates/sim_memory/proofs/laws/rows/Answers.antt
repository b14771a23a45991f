use Rattle.sim_memory.proofs.Rows.{row_length, row_at, row_grows}
use Rattle.sim_memory.proofs.laws.rows.Goals as goal

pub returns-clause-length : goal.returns-clause-length
returns-clause-length c = λ m n steps. row_length m n steps

pub returns-clause-entry : goal.returns-clause-entry
returns-clause-entry c = λ m n steps p below. row_at m n steps p below

pub returns-clause-grows : goal.returns-clause-grows
returns-clause-grows c = λ m n steps others most. row_grows m n steps others most
