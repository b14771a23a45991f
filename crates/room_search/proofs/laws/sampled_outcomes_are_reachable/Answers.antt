use Rattle.room_search.proofs.Arriving.{all_found, arrives, arrives_by}
use Rattle.room_search.proofs.laws.sampled_outcomes_are_reachable.Goals as goal

pub returns-clause-schedules : goal.returns-clause-schedules
returns-clause-schedules c = arrives

pub returns-clause-numbers : goal.returns-clause-numbers
returns-clause-numbers c = arrives_by

pub returns-clause-samples : goal.returns-clause-samples
returns-clause-samples c = all_found
