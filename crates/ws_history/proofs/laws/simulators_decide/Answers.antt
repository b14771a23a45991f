use Rattle.ws_history.proofs.Deciders.{decided_by_process}
use Rattle.ws_history.proofs.SimulatorDecisions.{no_more_values, within_bound, within_own, within_own_bound, within_task}
use Rattle.ws_history.proofs.laws.simulators_decide.Goals as goal

pub returns-clause-history : goal.returns-clause-history
returns-clause-history c = λ room fields limits are i v below is. decided_by_process room fields limits are i v below is

pub returns-clause-few : goal.returns-clause-few
returns-clause-few c = λ room fields limits are. no_more_values room fields limits are

pub returns-clause-task : goal.returns-clause-task
returns-clause-task c = λ room fields limits are most keeps. within_task room fields limits are most keeps

pub returns-clause-certified : goal.returns-clause-certified
returns-clause-certified c = λ room fields limits is are f certified. within_bound room fields limits are is f certified

pub returns-clause-own : goal.returns-clause-own
returns-clause-own c = λ room fields limits is are most keeps. within_own room fields limits are is most keeps

pub returns-clause-own_certified : goal.returns-clause-own_certified
returns-clause-own_certified c = λ room fields limits is are f certified. within_own_bound room fields limits are is f certified
