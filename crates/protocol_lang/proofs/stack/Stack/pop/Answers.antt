use Rattle.std.proofs.lemmas.Grind.{common_steps}
use Rattle.std.proofs.Common.{arith}
use Rattle.protocol_lang.proofs.stack.Stack.pop.Goals as goal

pub returns-clause-rest : goal.returns-clause-rest
returns-clause-rest g c = grind (arith, common_steps)

pub returns-clause-result : goal.returns-clause-result
returns-clause-result g c = grind (arith, common_steps)
