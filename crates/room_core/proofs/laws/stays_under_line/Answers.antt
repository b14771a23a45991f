use Rattle.room_core.proofs.fields.Replays.{under_line_at_end}
use Rattle.room_core.proofs.laws.stays_under_line.Goals as goal

pub returns : goal.returns
returns c = λ room i one may. under_line_at_end room i one may
