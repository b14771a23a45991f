use Rattle.std.specs.Prelude.{◌≡◌, ℕ, ◌<◌, Some, true, slice_get}
use Rattle.decision_tasks.specs.Tasks.{is_allowed}
use Rattle.decision_tasks.proofs.task.DecisionTask.first_refused.Given as goal

abbrev pub invariant-loop-p : goal.invariant-loop-p
invariant-loop-p l = (q v : ℕ) → q < l.p → slice_get l.decisions.items q ≡ Some (Some v) → is_allowed l.self l.spec.inputs l.decisions.items q v ≡ true
