use Rattle.room_core.proofs.points.RealTimes.{begun_by, ended_before, in_real_time}
use Rattle.room_core.proofs.laws.real_time.Goals as goal

pub returns-clause-begun : goal.returns-clause-begun
returns-clause-begun c = λ room fields limits are moment time point within takes before. begun_by room fields limits are moment within time point takes before

pub returns-clause-ended : goal.returns-clause-ended
returns-clause-ended c = λ room fields limits are moment time point within early takes ended. ended_before room fields limits are moment within time point early takes ended

pub returns-clause-order : goal.returns-clause-order
returns-clause-order c = λ room fields limits are one other s t early first second precedes. in_real_time room fields limits are one other s t early first second precedes
