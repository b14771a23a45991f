use Rattle.room_core.proofs.fields.Replays.{opens_run}
use Rattle.room_core.proofs.laws.opens.Goals as goal

pub returns : goal.returns
returns c = λ spec. opens_run spec
