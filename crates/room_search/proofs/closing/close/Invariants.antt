use Rattle.std.proofs.Common.{◌^◌, ◌-◌}
use Rattle.room_search.specs.Moving.{GoOn}
use Rattle.room_search.specs.Nodes.{AreIn, AreNumbers}
use Rattle.room_search.proofs.closing.close.Given as goal

abbrev pub invariant-loop-at : goal.invariant-loop-at
invariant-loop-at l = record {
  on : GoOn l.subject.spec.now l.fn.moves l.moves;
  numbers : AreNumbers l.moves.table.keys l.set.items;
  kept : AreIn l.fn.set.items l.set.items;
}

abbrev pub decreases-loop-at : goal.decreases-loop-at
decreases-loop-at l = 2 ^ 64 - l.at
