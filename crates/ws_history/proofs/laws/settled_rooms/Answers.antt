use Rattle.ws_history.proofs.Settled.{most_are_over}
use Rattle.ws_history.proofs.laws.settled_rooms.Goals as goal

pub returns : goal.returns
returns c = λ room fields limits are each. most_are_over room fields limits are each
