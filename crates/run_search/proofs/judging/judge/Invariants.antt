use Rattle.std.proofs.Common.{◌≡◌, ◌<◌, ◌≤◌, ◌-◌, ◌⊎◌, ℕ, Some}
use Rattle.std.specs.Prelude.{slice_get}
use Rattle.run_search.specs.Judging.{DoNodesKeep}
use Rattle.run_search.specs.Limits.{IsSearched}
use Rattle.run_search.specs.Nodes.{HasEdges, IsBelowLater, Node}
use Rattle.run_search.proofs.judging.judge.Given as goal

abbrev pub invariant-loop-cursor : goal.invariant-loop-cursor
invariant-loop-cursor g l = record {
  searched : IsSearched l.spec l.explored;
  edges : (i : ℕ) (node : Node) → i < l.cursor → slice_get l.explored.nodes.items i ≡ Some node → HasEdges l.spec l.explored.nodes.items node ⊎ IsBelowLater l.explored.nodes.items i node;
  kept : DoNodesKeep l.spec l.most l.explored.nodes.items 0 l.judged;
  judged : l.cursor ≤ l.judged;
  within : l.judged ≤ l.limit;
}

abbrev pub decreases-loop-cursor : goal.decreases-loop-cursor
decreases-loop-cursor g l = l.limit - l.cursor
