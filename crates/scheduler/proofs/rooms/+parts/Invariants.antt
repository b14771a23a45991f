use Rattle.std.proofs.Common.{◌+◌, ◌*◌}
use Rattle.scheduler.proofs.rooms.+parts.Given as goal

abbrev pub decreases-finish_by : goal.decreases-finish_by
decreases-finish_by g l = 2 * l.threads

abbrev pub decreases-first : goal.decreases-first
decreases-first g l = 2 * l.others + 1
