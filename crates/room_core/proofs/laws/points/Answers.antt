use Rattle.room_core.proofs.points.RoomPoints.{effects_at, read_counted, read_early, read_first, read_then, timelines}
use Rattle.room_core.proofs.laws.points.Goals as goal

pub returns-clause-effects : goal.returns-clause-effects
returns-clause-effects c = λ room fields limits are time early. effects_at room fields limits are time early

pub returns-clause-read : goal.returns-clause-read
returns-clause-read c = λ room fields limits are j k passed. (read_early room fields limits are j k passed, read_then room fields limits are j k passed)

pub returns-clause-counted : goal.returns-clause-counted
returns-clause-counted c = λ room fields limits are j k passed. read_counted room fields limits are j k passed

pub returns-clause-fixed : goal.returns-clause-fixed
returns-clause-fixed c = λ room fields limits are j k time passed within at. read_first room fields limits are j k time passed within at

pub returns-clause-timeline : goal.returns-clause-timeline
returns-clause-timeline c = λ room fields limits are. timelines room fields limits are
