use Rattle.room_core.proofs.points.InTurn.{decision_in_turn, write_in_turn}
use Rattle.room_core.proofs.laws.operations_follow.Goals as goal

pub returns-clause-writes : goal.returns-clause-writes
returns-clause-writes c = λ room fields limits are p r low first begun. write_in_turn room fields limits are p r low first begun

pub returns-clause-snaps : goal.returns-clause-snaps
returns-clause-snaps c = λ spec fields p r begun. begun

pub returns-clause-decides : goal.returns-clause-decides
returns-clause-decides c = λ room fields limits are p decision low begun. decision_in_turn room fields limits are p decision low begun
