use Rattle.room_core.proofs.fields.EventCounts.{events_are}
use Rattle.room_core.proofs.laws.schedules_are_counted.Goals as goal

pub returns : goal.returns
returns c = λ room limits one. events_are room limits one
