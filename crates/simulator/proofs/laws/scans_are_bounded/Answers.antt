use Rattle.simulator.proofs.Limits.{collects_most, collects_rest, limit_of_one, limit_of_several}
use Rattle.simulator.proofs.laws.scans_are_bounded.Goals as goal

pub returns-clause-most : goal.returns-clause-most
returns-clause-most c = λ spec mind is. collects_most mind.line spec mind.collects is.collects

pub returns-clause-rests : goal.returns-clause-rests
returns-clause-rests c = λ spec mind is rests. collects_rest mind.line spec mind.collects is.collects rests

pub returns-clause-one : goal.returns-clause-one
returns-clause-one c = limit_of_one

pub returns-clause-several : goal.returns-clause-several
returns-clause-several c = limit_of_several
