use Rattle.room_sample.proofs.AmongAll.{sampled_outcome}
use Rattle.room_sample.proofs.laws.sampled_outcomes.Goals as goal

pub returns : goal.returns
returns c = λ spec crashes schedule states limits is. sampled_outcome spec crashes schedule states limits is
