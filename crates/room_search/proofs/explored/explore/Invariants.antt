use Rattle.std.proofs.Common.{◌≡◌, ◌<◌, ◌≤◌, ◌-◌, ℕ, Some}
use Rattle.std.specs.Prelude.{slice_get}
use Rattle.room_core.specs.Calls.{configuration_of}
use Rattle.room_search.specs.Nodes.{HaveRoom, LeadsInside, Node}
use Rattle.room_search.specs.Searches.{IsSearched}
use Rattle.room_search.proofs.explored.explore.Given as goal

abbrev pub invariant-loop-cursor : goal.invariant-loop-cursor
invariant-loop-cursor g l = record {
  searched : IsSearched l.subject.spec.now l.explored;
  start : HaveRoom l.explored.moves.table.keys l.explored.nodes.items (configuration_of l.subject.start.now);
  leads : (index : ℕ) (node : Node) → index < l.cursor → slice_get l.explored.nodes.items index ≡ Some node → LeadsInside l.subject.spec.now (configuration_of l.subject.start.now) l.explored.moves.table.keys l.explored.nodes.items l.explored.lost node;
  within : l.cursor ≤ l.limit;
}

abbrev pub decreases-loop-cursor : goal.decreases-loop-cursor
decreases-loop-cursor g l = l.limit - l.cursor
