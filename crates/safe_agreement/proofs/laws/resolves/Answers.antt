use Rattle.safe_agreement.proofs.Resolving.{resolved_to, resolved_from, resolves_least, resolves}
use Rattle.safe_agreement.proofs.laws.resolves.Goals as goal

pub returns-clause-to : goal.returns-clause-to
returns-clause-to c = λ levels i. (λ is. resolved_to levels i is, λ to. resolved_from levels i to)

pub returns-clause-least : goal.returns-clause-least
returns-clause-least c = λ levels resolved. resolves_least levels resolved

pub returns-clause-some : goal.returns-clause-some
returns-clause-some c = λ levels resolved. resolves levels resolved
