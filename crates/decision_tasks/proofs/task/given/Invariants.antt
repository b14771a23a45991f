use Rattle.std.specs.Prelude.{◌≡◌, ◌≤◌, ◌==◌, take}
use Rattle.std.specs.List.{count_by}
use Rattle.decision_tasks.proofs.task.given.Given as goal

abbrev pub invariant-loop-p : goal.invariant-loop-p
invariant-loop-p l = record {
  few : l.count ≤ l.p;
  value : l.count ≡ count_by (λ input. input == l.v) (take l.p l.spec.inputs);
}
