use Rattle.room_core.proofs.settling.FewSpent.{few_out, spent_is_out}
use Rattle.room_core.proofs.laws.few_are_spent.Goals as goal

pub returns-clause-few : goal.returns-clause-few
returns-clause-few c = λ room fields limits are f certified. few_out room fields limits are f certified

pub returns-clause-minds : goal.returns-clause-minds
returns-clause-minds c = λ room fields limits are i j below low is. spent_is_out room fields limits are i j below low is
