use Rattle.std.proofs.Common.{◌≡◌, ◌≤◌, length, take}
use Rattle.transcript.specs.Tasks.{different}
use Rattle.run_search.proofs.agreed.own_values.Given as goal

abbrev pub invariant-loop-i : goal.invariant-loop-i
invariant-loop-i l = record {
  values : l.values.items ≡ different (take l.i l.spec.own);
  few : length l.values.items ≤ l.i;
}
