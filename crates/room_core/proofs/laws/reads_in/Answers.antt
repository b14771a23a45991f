use Rattle.room_core.proofs.fields.Decoding.{agrees}
use Rattle.room_core.proofs.laws.reads_in.Goals as goal

pub returns : goal.returns
returns c = λ room fields limits are. agrees room fields limits are
