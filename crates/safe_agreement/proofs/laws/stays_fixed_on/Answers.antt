use Rattle.safe_agreement.proofs.Replays.{stays_fixed_on, keeps_twos_on}
use Rattle.safe_agreement.proofs.laws.stays_fixed_on.Goals as goal

pub returns-clause-fixed : goal.returns-clause-fixed
returns-clause-fixed c = λ m phases changes legal fixed. stays_fixed_on m phases changes legal fixed

pub returns-clause-twos : goal.returns-clause-twos
returns-clause-twos c = λ m phases changes legal fixed. keeps_twos_on m phases changes legal fixed
