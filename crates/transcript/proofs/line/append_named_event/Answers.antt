use Rattle.std.proofs.Common.{arith}
use Rattle.std.proofs.lemmas.Grind.{common_steps}
use Rattle.transcript.proofs.line.append_named_event.Goals as goal

pub returns-in-Decide : goal.returns-in-Decide
returns-in-Decide c = grind (arith, common_steps)
