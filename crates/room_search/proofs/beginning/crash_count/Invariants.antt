use Rattle.std.proofs.Common.{◌≡◌, ◌≤◌}
use Rattle.room_search.specs.Beginnings.{crashed_below}
use Rattle.room_search.proofs.beginning.crash_count.Given as goal

abbrev pub invariant-loop-i : goal.invariant-loop-i
invariant-loop-i l = record {
  count_is : l.count ≡ crashed_below l.room l.i;
  few : l.count ≤ l.i;
}
