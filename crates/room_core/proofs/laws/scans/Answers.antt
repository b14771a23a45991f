use Rattle.room_core.proofs.agreements.Exact.{room_scans}
use Rattle.room_core.proofs.laws.scans.Goals as goal

pub returns : goal.returns
returns c = λ room fields limits are i below is. room_scans room fields limits are i below is
