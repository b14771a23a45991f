use Rattle.std.proofs.Common.{rules}
use Rattle.protocol_lang.proofs.fault.ParseFault.code.Goals as goal

pub returns-in-BadToken : goal.returns-in-BadToken
returns-in-BadToken c = search rules
