use Rattle.simulator.proofs.Deciding.{decision_stays, first_is, none_yet}
use Rattle.simulator.proofs.laws.decisions_stay.Goals as goal

pub returns : goal.returns
returns c = record { stays = decision_stays; first = first_is; none = none_yet; known = λ spec mind is. is.decision }
