use Rattle.std.proofs.Common.{◌<◌, IfSome, Option, ℕ, subst, arith}
use Rattle.simulator.proofs.words.chosen_in.Goals as goal

pub overflow_cast-result : goal.overflow_cast-result
overflow_cast-result c =
    let below : c.in-Some.simulator < c.m.result = subst (λ (found : Option ℕ). IfSome found (λ simulator. simulator < c.m.result)) c.in-Some.is c.resolved_in.ensures.below in
    omega (arith, below, c.m.ensures.range)
