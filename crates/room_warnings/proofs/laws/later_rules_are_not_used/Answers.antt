use Rattle.room_warnings.proofs.Certain.{not_used}
use Rattle.room_warnings.proofs.laws.later_rules_are_not_used.Goals as goal

pub returns : goal.returns
returns c = not_used
