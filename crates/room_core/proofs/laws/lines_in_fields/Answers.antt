use Rattle.room_core.proofs.fields.Legality.{lines_in_fields, schedules_in_fields}
use Rattle.room_core.proofs.laws.lines_in_fields.Goals as goal

pub returns : goal.returns
returns c = record {
  line = λ room fields i shape reads. lines_in_fields room fields i shape reads;
  schedule = λ spec schedule limits. schedules_in_fields spec schedule limits;
}
