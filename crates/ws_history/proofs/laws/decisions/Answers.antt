use Rattle.ws_history.proofs.Decisions.{decisions_are}
use Rattle.ws_history.proofs.laws.decisions.Goals as goal

pub returns : goal.returns
returns c = λ spec src p v. decisions_are spec src p v
