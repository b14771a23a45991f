use Rattle.std.proofs.Common.{◌≡◌, None, replicate}
use Rattle.decision_tasks.proofs.history.none_decided.Given as goal

abbrev pub invariant-loop : goal.invariant-loop
invariant-loop l = l.decisions.items ≡ replicate l.counter None
