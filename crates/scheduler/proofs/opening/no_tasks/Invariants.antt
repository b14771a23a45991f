use Rattle.std.proofs.Common.{◌≡◌, [], length, map, replicate}
use Rattle.scheduler.proofs.opening.no_tasks.Given as goal

abbrev pub invariant-loop : goal.invariant-loop
invariant-loop l = (length l.queues.items ≡ l.counter) × (map (λ queue. queue.items) l.queues.items ≡ replicate l.counter [])
