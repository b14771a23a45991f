use Rattle.sim_memory.proofs.Words.{later_steps, later_row}
use Rattle.sim_memory.proofs.laws.later_words.Goals as goal

pub returns-clause-steps : goal.returns-clause-steps
returns-clause-steps c = λ sizes words later most. later_steps sizes words later most

pub returns-clause-row : goal.returns-clause-row
returns-clause-row c = λ sizes words later most. later_row sizes words later most
