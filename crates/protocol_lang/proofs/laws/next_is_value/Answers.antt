use Rattle.protocol_lang.proofs.Limits.{next_small}
use Rattle.protocol_lang.proofs.laws.next_is_value.Goals as goal

pub returns : goal.returns
returns c = next_small
