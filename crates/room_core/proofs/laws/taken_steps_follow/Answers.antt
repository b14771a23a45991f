use Rattle.room_core.proofs.settling.Following.{settling_follows, steps_follow}
use Rattle.room_core.proofs.laws.taken_steps_follow.Goals as goal

pub returns-clause-steps : goal.returns-clause-steps
returns-clause-steps c = λ room i count. steps_follow room i count

pub returns-clause-settling : goal.returns-clause-settling
returns-clause-settling c = λ room. settling_follows room
