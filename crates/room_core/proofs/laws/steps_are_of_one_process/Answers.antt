use Rattle.room_core.proofs.points.OneProcess.{left_uncounted, left_unstored}
use Rattle.room_core.proofs.laws.steps_are_of_one_process.Goals as goal

pub returns-clause-counts : goal.returns-clause-counts
returns-clause-counts c = λ room limits one i may p why. left_uncounted room limits one i may p why

pub returns-clause-stores : goal.returns-clause-stores
returns-clause-stores c = λ room limits one i may p why. left_unstored room limits one i may p why
