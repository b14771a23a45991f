use Rattle.run_columns.proofs.Choosing.{chosen_when_resolved, one_chosen}
use Rattle.run_columns.proofs.laws.one_is_chosen.Goals as goal

pub returns-clause-one : goal.returns-clause-one
returns-clause-one c = one_chosen

pub returns-clause-resolved : goal.returns-clause-resolved
returns-clause-resolved c = chosen_when_resolved
