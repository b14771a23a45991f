use Rattle.ws_history.proofs.Deciders.{decided_there}
use Rattle.ws_history.proofs.laws.decided_in_history.Goals as goal

pub returns : goal.returns
returns c = λ room fields limits are j v low. decided_there room fields limits are j v low
