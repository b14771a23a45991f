use Rattle.std.proofs.Common.{refl}
use Rattle.room_core.proofs.settling.InOrder.{settled_over}
use Rattle.room_core.proofs.settling.Ending.{settled_for}
use Rattle.room_core.proofs.laws.settles.Goals as goal

pub returns-clause-settled : goal.returns-clause-settled
returns-clause-settled c = settled_for

pub returns-clause-rests : goal.returns-clause-rests
returns-clause-rests c = λ room fields limits are i below alive. let has = settled_over room.spec limits room fields refl are in has.is.holds.rests i below alive
