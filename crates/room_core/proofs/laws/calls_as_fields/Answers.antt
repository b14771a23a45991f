use Rattle.room_core.proofs.fields.FieldCalls.{calls_in_fields}
use Rattle.room_core.proofs.laws.calls_as_fields.Goals as goal

pub returns : goal.returns
returns c = λ room fields calls limits are. calls_in_fields room fields calls limits are
