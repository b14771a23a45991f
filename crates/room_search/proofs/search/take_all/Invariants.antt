use Rattle.std.proofs.Common.{◌≡◌, ◌<◌, ◌⊎◌, ℕ, Some, false}
use Rattle.std.specs.Prelude.{slice_get}
use Rattle.std.specs.List.{Contains}
use Rattle.room_core.specs.Calls.{configuration_of}
use Rattle.room_search.specs.Beginnings.{begun}
use Rattle.room_search.specs.Nodes.{Node}
use Rattle.room_search.specs.Taking.{IsTaken, IsTaking}
use Rattle.room_search.proofs.search.take_all.Given as goal

abbrev pub invariant-loop-place : goal.invariant-loop-place
invariant-loop-place l = record {
  taking : IsTaking l.subject.spec.now (begun l.subject.spec.now l.subject.acts.now) l.crashes l.taking;
  lost : l.missed ≡ 0 → l.explored.lost ≡ false;
  first : (k : ℕ) (node : Node) → slice_get l.explored.nodes.items k ≡ Some node → IsTaken l.subject.spec.now (configuration_of l.subject.start.now) l.crashes l.explored.moves.table.keys l.taking.outcomes.items node ⊎ Contains l.left.items k;
  rest : l.missed ≡ 0 → (p k : ℕ) (node : Node) → p < l.place → slice_get l.left.items p ≡ Some k → slice_get l.explored.nodes.items k ≡ Some node → IsTaken l.subject.spec.now (configuration_of l.subject.start.now) l.crashes l.explored.moves.table.keys l.taking.outcomes.items node;
}
