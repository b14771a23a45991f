use Rattle.std.proofs.Common.{rules}
use Rattle.protocol_lang.proofs.parser.Parser.take_rule.Goals as goal

pub returns-in-Word-When-2 : goal.returns-in-Word-When-2
returns-in-Word-When-2 c = search rules
