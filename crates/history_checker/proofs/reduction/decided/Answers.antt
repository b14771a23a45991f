use Rattle.std.proofs.Common.{refl}
use Rattle.history_checker.proofs.Alone.{decides}
use Rattle.history_checker.proofs.reduction.decided.Goals as goal

pub returns : goal.returns
returns c = λ spec p mine others before same at may. decides spec mine others before same p c.args.v c.args.process (c.if-not-is_decide_of.ensures.0 refl) at may
