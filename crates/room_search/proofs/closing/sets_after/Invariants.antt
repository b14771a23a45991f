use Rattle.std.proofs.Common.{map}
use Rattle.room_search.specs.Moving.{GoOn}
use Rattle.room_search.specs.Nodes.{AreSetsAfter}
use Rattle.room_search.proofs.closing.sets_after.Given as goal

abbrev pub invariant-loop-i : goal.invariant-loop-i
invariant-loop-i l = record {
  on : GoOn l.subject.spec.now l.fn.moves l.moves;
  sets : AreSetsAfter l.subject.spec.now l.moves.table.keys l.node l.arrival.simulator l.arrival.number l.i (map (λ set. set.items) l.sets.items);
}
