use Rattle.std.specs.Prelude.{◌≡◌, drop, map}
use Rattle.decision_tasks.specs.Tasks.{task_from}
use Rattle.decision_tasks.proofs.Reading.{after_lines}
use Rattle.decision_tasks.proofs.task.DecisionTask.read_lines.Given as goal

abbrev pub invariant-loop-index : goal.invariant-loop-index
invariant-loop-index l = task_from 0 (map (λ line. line.now) l.lines) ≡ after_lines l.read.items (task_from l.index (drop l.index (map (λ line. line.now) l.lines)))
