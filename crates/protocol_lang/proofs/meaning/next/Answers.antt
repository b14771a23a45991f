use Rattle.std.proofs.Common.{rules}
use Rattle.protocol_lang.proofs.meaning.next.Goals as goal

pub returns : goal.returns
returns c = search rules
