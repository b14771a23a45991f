use Rattle.std.proofs.Common.{arith, refl}
use Rattle.history_checker.proofs.Alone.{writes}
use Rattle.history_checker.proofs.reduction.wrote.Goals as goal

pub returns : goal.returns
returns c = λ spec p rounds mine others before same at may. writes spec mine others before same p c.args.v c.args.process (c.if-not-is_write_of.ensures.0 refl) (omega (arith, rounds)) at may
