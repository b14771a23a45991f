use Rattle.std.proofs.Common.{rules}
use Rattle.room_spec.proofs.spec.Spec.rounds.Goals as goal

pub returns-clause-value : goal.returns-clause-value
returns-clause-value c = search rules
