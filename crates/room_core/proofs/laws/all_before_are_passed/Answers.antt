use Rattle.room_core.proofs.agreements.Promises.{all_before}
use Rattle.room_core.proofs.laws.all_before_are_passed.Goals as goal

pub returns : goal.returns
returns c = λ room fields limits are j k r within first less is. all_before room fields limits are j k r within first less is
