use Rattle.std.proofs.Common.{rules}
use Rattle.protocol_lang.proofs.state.Part.hides.Goals as goal

pub returns-in-First : goal.returns-in-First
returns-in-First c = search rules
