use Rattle.safe_agreement.proofs.Steps.{stays_fixed, keeps_twos}
use Rattle.safe_agreement.proofs.laws.stays_fixed.Goals as goal

pub returns-clause-fixed : goal.returns-clause-fixed
returns-clause-fixed c = λ m before change after step fixed. stays_fixed m before change after step fixed

pub returns-clause-twos : goal.returns-clause-twos
returns-clause-twos c = λ m before change after step fixed. keeps_twos m before change after step fixed
