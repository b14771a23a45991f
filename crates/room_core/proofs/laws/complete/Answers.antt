use Rattle.room_core.proofs.points.RealTimes.{complete_by}
use Rattle.room_core.proofs.laws.complete.Goals as goal

pub returns : goal.returns
returns c = λ room fields limits are moment point within operation ended. complete_by room fields limits are moment within point operation ended
