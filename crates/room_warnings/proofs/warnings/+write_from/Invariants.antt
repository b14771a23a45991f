use Rattle.std.proofs.Common.{length}
use Rattle.room_warnings.proofs.warnings.+write_from.Given as goal

abbrev pub decreases-write_from : goal.decreases-write_from
decreases-write_from l = length l.rest.now
