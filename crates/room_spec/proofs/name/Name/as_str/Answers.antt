use Rattle.std.proofs.Common.{rules}
use Rattle.room_spec.proofs.name.Name.as_str.Goals as goal

pub returns-clause-text : goal.returns-clause-text
returns-clause-text c = search rules

pub returns-clause-rule : goal.returns-clause-rule
returns-clause-rule c = search rules
