use Rattle.std.proofs.Common.{◌+◌, ◌*◌}
use Rattle.room_sample.proofs.workers.+workers.Given as goal

abbrev pub decreases-count_by_workers : goal.decreases-count_by_workers
decreases-count_by_workers g l = 2 * l.workers

abbrev pub decreases-count_others : goal.decreases-count_others
decreases-count_others g l = 2 * l.others + 1
