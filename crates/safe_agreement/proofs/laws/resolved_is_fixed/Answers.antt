use Rattle.safe_agreement.proofs.Replays.{resolved_is_fixed}
use Rattle.safe_agreement.proofs.laws.resolved_is_fixed.Goals as goal

pub returns : goal.returns
returns c = λ m phases resolved. resolved_is_fixed m phases resolved
