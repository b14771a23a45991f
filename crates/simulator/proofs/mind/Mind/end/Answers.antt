use Rattle.std.proofs.Common.{arith}
use Rattle.std.proofs.lemmas.Grind.{common_steps}
use Rattle.simulator.proofs.mind.Mind.end.Goals as goal

pub returns-clause-mind : goal.returns-clause-mind
returns-clause-mind c = grind (arith, common_steps)
