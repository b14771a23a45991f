use Rattle.std.proofs.Common.{refl}
use Rattle.simulator.proofs.Keeping.{opens_of}
use Rattle.simulator.proofs.mind.Mind.new.Goals as goal

pub returns-clause-value : goal.returns-clause-value
returns-clause-value c = rw (c.opening_goals.ensures, c.opening_inputs.ensures, c.shape-shape.ensures.n, c.new.ensures, c.nothing.ensures) refl

pub returns-clause-is_mind : goal.returns-clause-is_mind
returns-clause-is_mind c = opens_of c.args.spec.now c.args.i _ (returns-clause-value c) c.shape-shape.ensures.limits c.requires
