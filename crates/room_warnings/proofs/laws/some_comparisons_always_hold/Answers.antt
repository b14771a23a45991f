use Rattle.protocol_lang.specs.Meaning.{value_of}
use Rattle.room_warnings.proofs.Certain.{equal_itself, zero_least}
use Rattle.room_warnings.proofs.laws.some_comparisons_always_hold.Goals as goal

pub returns : goal.returns
returns c = record { least = λ s e. zero_least (value_of e s); most = λ s e. zero_least (value_of e s); same = λ s e. equal_itself (value_of e s) }
