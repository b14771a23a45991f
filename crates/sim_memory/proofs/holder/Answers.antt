use Rattle.std.proofs.Common.{rules}
use Rattle.sim_memory.proofs.holder.Goals as goal

pub returns-clause-value : goal.returns-clause-value
returns-clause-value c = search rules

pub returns-clause-holds : goal.returns-clause-holds
returns-clause-holds c = search rules
