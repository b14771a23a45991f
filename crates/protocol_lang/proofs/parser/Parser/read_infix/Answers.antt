use Rattle.std.proofs.Common.{rules}
use Rattle.protocol_lang.proofs.parser.Parser.read_infix.Goals as goal

pub returns : goal.returns
returns c = search rules
