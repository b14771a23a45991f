use Rattle.std.proofs.Common.{◌≡◌, ◌<◌, ℕ, Some}
use Rattle.std.specs.Prelude.{slice_get}
use Rattle.room_search.specs.Nodes.{LeadsAt, Node}
use Rattle.room_search.specs.Searches.{GoesFurther}
use Rattle.room_search.proofs.explored.Explored.follow_simulator.Given as goal

abbrev pub invariant-loop-place : goal.invariant-loop-place
invariant-loop-place l = record {
  further : GoesFurther l.subject.spec.now l.fn.self l.self;
  leads : (node : Node) (place : ℕ) → place < l.place → slice_get l.fn.self.nodes.items l.cursor ≡ Some node → LeadsAt l.subject.spec.now l.self.moves.table.keys l.self.nodes.items l.self.lost node l.i place;
}
