use Rattle.room_core.proofs.moments.Visits.{fixed_shows_all, proposal_shows_all}
use Rattle.room_core.proofs.laws.later_rounds_show_all.Goals as goal

pub returns-clause-proposals : goal.returns-clause-proposals
returns-clause-proposals c = λ room fields limits are ordinary i j k p below within within' two at. proposal_shows_all room fields limits are ordinary i j k p below within within' two at

pub returns-clause-agreed : goal.returns-clause-agreed
returns-clause-agreed c = λ room fields limits are ordinary j k p within within' two fixed. fixed_shows_all room fields limits are ordinary j k p within within' two fixed
