use Rattle.std.proofs.Common.{◌≡◌, ◌<◌, ℕ, Some}
use Rattle.std.specs.Prelude.{slice_get}
use Rattle.std.specs.List.{Contains}
use Rattle.run_search.specs.declared.local_state.LocalState.{LocalState}
use Rattle.run_search.specs.Limits.{IsSearched}
use Rattle.run_search.specs.Nodes.{HasEdge, Node, NodesGrow, set_of}
use Rattle.run_search.proofs.explored.Explored.visit.Given as goal

abbrev pub invariant-loop-p : goal.invariant-loop-p
invariant-loop-p l = record {
  searched : IsSearched l.spec l.self;
  grown : NodesGrow l.fn.self.nodes.items l.self.nodes.items;
  edges : (node : Node) (q : ℕ) (local : LocalState) → slice_get l.fn.self.nodes.items l.cursor ≡ Some node → q < l.p → Contains (set_of node q) local → HasEdge l.spec l.self.nodes.items node q local;
}
