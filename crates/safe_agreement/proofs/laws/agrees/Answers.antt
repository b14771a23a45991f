use Rattle.safe_agreement.proofs.Replays.{moments_agree, resolves_again, resolves_as_fixed}
use Rattle.safe_agreement.proofs.laws.agrees.Goals as goal

pub returns-clause-moments : goal.returns-clause-moments
returns-clause-moments c = λ m phases changes a b i k legal is is'. moments_agree m phases changes a b i k legal is is'

pub returns-clause-again : goal.returns-clause-again
returns-clause-again c = λ m phases changes i legal is resolved. resolves_again m phases changes i legal is resolved

pub returns-clause-fixed : goal.returns-clause-fixed
returns-clause-fixed c = λ m phases changes legal fixed resolved. resolves_as_fixed m phases changes legal fixed resolved
