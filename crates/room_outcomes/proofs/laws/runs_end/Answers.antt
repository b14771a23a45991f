use Rattle.room_outcomes.proofs.Ending.{ends_are, is_outcome, reported_outcome, reported_room_outcome, settled_outcome}
use Rattle.room_outcomes.proofs.laws.runs_end.Goals as goal

pub returns-clause-history : goal.returns-clause-history
returns-clause-history c = λ room fields limits are. ends_are room fields limits are

pub returns-clause-outcome : goal.returns-clause-outcome
returns-clause-outcome c = λ room fields crashes limits are few. is_outcome room fields limits are crashes few

pub returns-clause-reported : goal.returns-clause-reported
returns-clause-reported c = λ room fields limits are. reported_outcome room fields limits are

pub returns-clause-settled : goal.returns-clause-settled
returns-clause-settled c = λ room fields limits are settled. settled_outcome room fields limits are settled

pub returns-clause-among : goal.returns-clause-among
returns-clause-among c = λ room fields limits are. reported_room_outcome room fields limits are
