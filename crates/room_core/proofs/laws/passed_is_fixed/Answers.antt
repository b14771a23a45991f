use Rattle.room_core.proofs.agreements.Fixing.{fixed_has_least}
use Rattle.room_core.proofs.agreements.Promises.{passed_fixed}
use Rattle.room_core.proofs.laws.passed_is_fixed.Goals as goal

pub returns-clause-fixed : goal.returns-clause-fixed
returns-clause-fixed c = λ room fields limits are j k within first is. passed_fixed room fields limits are j k within first is

pub returns-clause-least : goal.returns-clause-least
returns-clause-least c = λ spec fields j k at. fixed_has_least spec fields j k at
