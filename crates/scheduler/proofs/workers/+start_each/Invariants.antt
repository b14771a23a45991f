use Rattle.std.proofs.Common.{length}
use Rattle.scheduler.proofs.workers.+start_each.Given as goal

abbrev pub decreases-start_each : goal.decreases-start_each
decreases-start_each g l = length l.queues.items
