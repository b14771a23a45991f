use Rattle.std.proofs.Common.{rules}
use Rattle.room_spec.proofs.spec.Spec.input.Goals as goal

pub returns : goal.returns
returns c = search rules
