use Rattle.room_sample.proofs.Grouping.{are_groups}
use Rattle.room_sample.proofs.laws.groups_of_outcomes.Goals as goal

pub returns : goal.returns
returns c = λ outcomes few. are_groups outcomes few
