use Rattle.std.proofs.Common.{◌≡◌, ◌≤◌, ◌++◌, length, map}
use Rattle.scheduler.specs.Tasks.{to_visit}
use Rattle.scheduler.proofs.visiting.take_next.Given as goal

abbrev pub invariant-loop-task : goal.invariant-loop-task
invariant-loop-task l = record {
  same : l.all.items ++ map to_visit l.tasks.items ≡ l.initial.all.items ++ map to_visit l.initial.tasks.items;
  few : length l.tasks.items ≤ length l.initial.tasks.items;
}

abbrev pub decreases-loop-task : goal.decreases-loop-task
decreases-loop-task l = length l.tasks.items
