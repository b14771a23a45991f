use Rattle.std.proofs.Common.{rules}
use Rattle.simulator.proofs.Keeping.{kept_of}
use Rattle.simulator.proofs.Limits.{few_collects}
use Rattle.simulator.proofs.Stepping.{bounded, rests_of}
use Rattle.simulator.proofs.mind.Mind.take.Goals as goal

pub returns-clause-mind : goal.returns-clause-mind
returns-clause-mind c = search rules

pub returns-clause-turn : goal.returns-clause-turn
returns-clause-turn c = search rules

pub returns-clause-is_mind : goal.returns-clause-is_mind
returns-clause-is_mind c = kept_of c.args.spec.now c.args.self.now _ c.args.answer (returns-clause-mind c) c.requires.is_mind c.requires.operation

pub returns-clause-bound : goal.returns-clause-bound
returns-clause-bound c = bounded c.args.spec.now _ (returns-clause-is_mind c)

pub returns-clause-collects : goal.returns-clause-collects
returns-clause-collects c = few_collects c.args.spec.now _ (returns-clause-is_mind c)

pub returns-clause-ended : goal.returns-clause-ended
returns-clause-ended c = rests_of c.args.spec.now c.args.self.now _ _ c.args.answer (returns-clause-mind c) (returns-clause-turn c)
