use Rattle.std.proofs.lemmas.Grind.{common_steps}
use Rattle.std.proofs.Common.{arith}
use Rattle.protocol_lang.proofs.stack.Stack.is_empty.Goals as goal

pub returns : goal.returns
returns g c = grind (arith, common_steps)
