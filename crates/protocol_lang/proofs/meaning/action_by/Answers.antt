use Rattle.std.proofs.Common.{arith}
use Rattle.std.proofs.lemmas.Grind.{common_steps}
use Rattle.protocol_lang.proofs.meaning.action_by.Goals as goal

pub returns-then-all_hold : goal.returns-then-all_hold
returns-then-all_hold c = grind (arith, common_steps)
