use Rattle.room_core.proofs.agreements.Lasting.{agreements_stay}
use Rattle.room_core.proofs.laws.agreements_stay.Goals as goal

pub returns : goal.returns
returns c = λ room fields call limits are. agreements_stay room fields call limits are
