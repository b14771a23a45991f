use Rattle.std.proofs.Common.{◌≤◌}
use Rattle.run_search.proofs.task.is_decided.Given as goal

abbrev pub invariant-loop-local : goal.invariant-loop-local
invariant-loop-local l = l.local-index ≤ l.local-index-end
