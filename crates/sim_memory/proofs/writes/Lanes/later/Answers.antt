use Rattle.std.proofs.Common.{cond, ltb, get_or, replicate, refl, ap, ◌∙◌, arith}
use Rattle.std.proofs.lemmas.List.{get_or-replicate}
use Rattle.sim_memory.proofs.Merging.{greater_of, selected}
use Rattle.sim_memory.proofs.writes.Lanes.later.Goals as goal

pub returns-clause-holders : goal.returns-clause-holders
returns-clause-holders c p below =
    selected c.args.self.rounds c.args.steps (replicate 16 c.args.i) c.args.self.holders p (omega arith) (omega arith) refl (omega arith) below
    ∙ ap (λ i. cond (ltb (get_or c.args.self.rounds p 0) (get_or c.args.steps p 0)) i (get_or c.args.self.holders p 0)) (get_or-replicate 16 p c.args.i 0 below)

pub returns-clause-rounds : goal.returns-clause-rounds
returns-clause-rounds c p below =
    selected c.args.self.rounds c.args.steps c.args.steps c.args.self.rounds p (omega arith) (omega arith) (omega arith) (omega arith) below
    ∙ greater_of (get_or c.args.self.rounds p 0) (get_or c.args.steps p 0)
