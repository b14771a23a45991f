use Rattle.ws_history.proofs.Spending.{ordinary_spent_there, spent_there}
use Rattle.ws_history.proofs.laws.spent_in_history.Goals as goal

pub returns-clause-run : goal.returns-clause-run
returns-clause-run c = λ room fields limits are j low. spent_there room fields limits are j low

pub returns-clause-ordinary : goal.returns-clause-ordinary
returns-clause-ordinary c = λ room fields limits is are j low. ordinary_spent_there room fields limits are j low is
