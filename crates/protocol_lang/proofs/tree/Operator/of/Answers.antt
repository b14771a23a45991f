use Rattle.std.proofs.Common.{rules}
use Rattle.protocol_lang.proofs.tree.Operator.of.Goals as goal

pub returns-in-Remainder : goal.returns-in-Remainder
returns-in-Remainder c = search rules
