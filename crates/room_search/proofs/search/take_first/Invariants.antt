use Rattle.std.proofs.Common.{◌≡◌, ◌<◌, ◌⊎◌, ℕ, Some}
use Rattle.std.specs.Prelude.{slice_get}
use Rattle.std.specs.List.{Contains}
use Rattle.room_core.specs.Calls.{configuration_of}
use Rattle.room_search.specs.Beginnings.{begun}
use Rattle.room_search.specs.Nodes.{Node}
use Rattle.room_search.specs.Taking.{IsTaken, IsTaking}
use Rattle.room_search.proofs.search.take_first.Given as goal

abbrev pub invariant-loop-index : goal.invariant-loop-index
invariant-loop-index l = record {
  taking : IsTaking l.source.subject.now.spec.now (begun l.source.subject.now.spec.now l.source.subject.now.acts.now) l.source.crashes l.taking;
  all : (k : ℕ) (node : Node) → k < l.index → slice_get l.source.explored.now.nodes.items k ≡ Some node → IsTaken l.source.subject.now.spec.now (configuration_of l.source.subject.now.start.now) l.source.crashes l.source.explored.now.moves.table.keys l.taking.outcomes.items node ⊎ Contains l.left.items k;
}
