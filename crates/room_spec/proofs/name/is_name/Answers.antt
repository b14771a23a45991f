use Rattle.std.proofs.Common.{rules}
use Rattle.room_spec.proofs.name.is_name.Goals as goal

pub returns-then-matches : goal.returns-then-matches
returns-then-matches c = search rules
