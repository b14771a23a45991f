use Rattle.safe_agreement.proofs.Steps.{step_of_change, same_fixed, same_beside}
use Rattle.safe_agreement.proofs.laws.steps.Goals as goal

pub returns-clause-of_change : goal.returns-clause-of_change
returns-clause-of_change c = λ m phases change below may. step_of_change m phases change below may

pub returns-clause-same_fixed : goal.returns-clause-same_fixed
returns-clause-same_fixed c = λ m phases others same fixed. same_fixed m phases others same fixed

pub returns-clause-same_beside : goal.returns-clause-same_beside
returns-clause-same_beside c = λ m phases others same beside. same_beside m phases others same beside
