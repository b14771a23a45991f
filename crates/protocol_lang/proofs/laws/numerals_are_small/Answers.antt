use Rattle.protocol_lang.proofs.Limits.{small_numerals}
use Rattle.protocol_lang.proofs.laws.numerals_are_small.Goals as goal

pub returns : goal.returns
returns c = small_numerals
