use Rattle.safe_agreement.proofs.Steps.{beside_before, stays_beside}
use Rattle.safe_agreement.proofs.Replays.{stays_beside_on, settles}
use Rattle.safe_agreement.proofs.laws.has_two_beside.Goals as goal

pub returns-clause-begins : goal.returns-clause-begins
returns-clause-begins c = λ m. beside_before m

pub returns-clause-stays : goal.returns-clause-stays
returns-clause-stays c = λ m before change after step beside. stays_beside m before change after step beside

pub returns-clause-stays_on : goal.returns-clause-stays_on
returns-clause-stays_on c = λ m phases changes legal beside. stays_beside_on m phases changes legal beside

pub returns-clause-resolved : goal.returns-clause-resolved
returns-clause-resolved c = λ m phases i level beside below left quiet. settles m phases i level beside below left quiet
