use Rattle.std.proofs.Common.{◌≤◌}
use Rattle.room_core.specs.Calls.{configuration_of}
use Rattle.room_search.specs.Taking.{HaveCrashed}
use Rattle.room_search.proofs.choice.fewest_crashed.Given as goal

abbrev pub invariant-loop-i : goal.invariant-loop-i
invariant-loop-i l = record {
  least : HaveCrashed l.source.subject.now.spec.now (configuration_of l.source.subject.now.start.now) l.source.explored.now.moves.table.keys l.node l.i l.count;
  few : l.count ≤ l.i;
}
