-- few_are_blocked
use Rattle.room_core.proofs.settling.Blocked.{few_blocked}
use Rattle.room_core.proofs.laws.few_are_blocked.Goals as goal

pub returns : goal.returns
returns c = λ room fields limits are. few_blocked room fields limits are
