use Rattle.std.proofs.Common.{map}
use Rattle.room_core.specs.Calls.{configuration_of}
use Rattle.room_search.specs.Moving.{GoOn}
use Rattle.room_search.proofs.Searching.{AreFirstSets}
use Rattle.room_search.proofs.explored.first_node.Given as goal

abbrev pub invariant-loop-i : goal.invariant-loop-i
invariant-loop-i l = record {
  on : GoOn l.subject.spec.now l.fn.moves l.moves;
  sets : AreFirstSets (configuration_of l.subject.start.now) l.moves.table.keys l.i (map (λ set. set.items) l.sets.items);
}
