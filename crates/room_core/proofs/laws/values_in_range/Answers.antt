use Rattle.room_core.proofs.values.LowValues.{fields_low, out_low}
use Rattle.room_core.proofs.laws.values_in_range.Goals as goal

pub returns-clause-value : goal.returns-clause-value
returns-clause-value c = λ room fields limits are i p r. fields_low room fields limits are i p r

pub returns-clause-out : goal.returns-clause-out
returns-clause-out c = λ room fields limits are i p below within. out_low room fields limits are i p below within
