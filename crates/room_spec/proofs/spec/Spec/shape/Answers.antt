use Rattle.std.proofs.Common.{rules}
use Rattle.room_spec.proofs.spec.Spec.shape.Goals as goal

pub returns-clause-n : goal.returns-clause-n
returns-clause-n c = search rules

pub returns-clause-sizes : goal.returns-clause-sizes
returns-clause-sizes c = search rules
