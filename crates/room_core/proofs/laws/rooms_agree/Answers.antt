use Rattle.room_core.proofs.agreements.Promises.{rooms_agree}
use Rattle.room_core.proofs.laws.rooms_agree.Goals as goal

pub returns : goal.returns
returns c = λ room fields limits are. rooms_agree room fields limits are
