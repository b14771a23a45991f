use Rattle.std.proofs.Common.{arith}
use Rattle.view_sum.proofs.Ordered.{last_is}
use Rattle.view_sum.proofs.sum.last_line.Goals as goal

pub returns-else-count-eq0 : goal.returns-else-count-eq0
returns-else-count-eq0 c = let not = c.if-count-eq0.false in last_is c.args.parts.now c.args.count _ (omega (arith, not)) c.requires
