use Rattle.std.proofs.Common.{◌≡◌, ℕ, ◌+◌, [], length}
use Rattle.std.specs.List.{All}
use Rattle.scheduler.specs.Tasks.{IsStoppedOf, IsTaskOf, brought, queued}
use Rattle.scheduler.proofs.workers.work.Given as goal

abbrev pub invariant-loop-visits : goal.invariant-loop-visits
invariant-loop-visits g l = record {
  left : All (λ task. IsTaskOf l.rooms task) l.tasks.items;
  none : l.all.items ≡ [];
  stopped : All (λ one. IsStoppedOf l.rooms one) l.done.items;
  same : (k i : ℕ) → brought k i l.done.items + queued k i l.tasks.items ≡ queued k i l.fn.tasks.items;
}

abbrev pub decreases-loop-visits : goal.decreases-loop-visits
decreases-loop-visits g l = length l.tasks.items
