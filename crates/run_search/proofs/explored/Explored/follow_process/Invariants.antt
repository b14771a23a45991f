use Rattle.std.proofs.Common.{◌≡◌, Some}
use Rattle.std.specs.Prelude.{slice_get}
use Rattle.run_search.specs.Limits.{IsSearched}
use Rattle.run_search.specs.Nodes.{HasEdgesBelow, Node, NodesGrow}
use Rattle.run_search.proofs.explored.Explored.follow_process.Given as goal

abbrev pub invariant-loop-index : goal.invariant-loop-index
invariant-loop-index l = record {
  searched : IsSearched l.spec l.self;
  grown : NodesGrow l.fn.self.nodes.items l.self.nodes.items;
  edges : (node : Node) → slice_get l.fn.self.nodes.items l.cursor ≡ Some node → HasEdgesBelow l.spec l.self.nodes.items node l.p l.index;
}
