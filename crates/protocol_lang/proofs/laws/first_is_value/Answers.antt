use Rattle.protocol_lang.proofs.Limits.{first_small}
use Rattle.protocol_lang.proofs.laws.first_is_value.Goals as goal

pub returns : goal.returns
returns c = first_small
