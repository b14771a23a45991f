use Rattle.ws_history.proofs.Held.{held_at_most, inside_at_most}
use Rattle.ws_history.proofs.laws.few_are_held.Goals as goal

pub returns-clause-inside : goal.returns-clause-inside
returns-clause-inside c = λ room fields limits are. inside_at_most room fields limits are

pub returns-clause-states : goal.returns-clause-states
returns-clause-states c = λ room fields limits are. held_at_most room fields limits are
