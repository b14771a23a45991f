use Rattle.std.proofs.Common.{rules}
use Rattle.view_table.proofs.place.views_from.Goals as goal

pub returns-clause-value : goal.returns-clause-value
returns-clause-value c = search rules
