use Rattle.std.proofs.Common.{◌∙◌, min, ap, arith}
use Rattle.sim_memory.proofs.Merging.{lesser_in}
use Rattle.sim_memory.proofs.writes.lowest_steps.Goals as goal

pub returns-clause-own : goal.returns-clause-own
returns-clause-own c p below =
    let few = c.args.shape.now.limits.n_range in
    lesser_in c.lowest_fields.result c.args.shape.now.rounds p (omega arith) (omega arith) ∙ ap (λ x. min x c.args.shape.now.rounds) (c.lowest_fields.ensures.own p below)

pub returns-clause-behind : goal.returns-clause-behind
returns-clause-behind c p after within =
    let none = c.lowest_fields.ensures.behind p after within in
    let lesser = lesser_in c.lowest_fields.result c.args.shape.now.rounds p (omega arith) within in
    omega arith
