use Rattle.room_core.proofs.fields.FieldReplays.{reads}
use Rattle.room_core.proofs.laws.reads_as_fields.Goals as goal

pub returns : goal.returns
returns c = λ room limits one. reads room limits one
