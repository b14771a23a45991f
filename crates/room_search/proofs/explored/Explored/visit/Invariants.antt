use Rattle.std.proofs.Common.{◌≡◌, ◌<◌, ℕ, false, Some}
use Rattle.std.specs.Prelude.{slice_get}
use Rattle.room_core.specs.Calls.{configuration_of}
use Rattle.room_core.specs.Rooms.{crashed_at}
use Rattle.room_search.specs.Moving.{IsSaidAt}
use Rattle.room_search.specs.Nodes.{LeadsAt, Node}
use Rattle.room_search.specs.Searches.{GoesFurther}
use Rattle.room_search.proofs.explored.Explored.visit.Given as goal

abbrev pub invariant-loop-i : goal.invariant-loop-i
invariant-loop-i l = record {
  further : GoesFurther l.subject.spec.now l.fn.self l.self;
  said : (node : Node) → slice_get l.fn.self.nodes.items l.cursor ≡ Some node → IsSaidAt l.self.moves.said.keys l.said node.said;
  leads : (node : Node) (i place : ℕ) → i < l.i → crashed_at (configuration_of l.subject.start.now) i ≡ false → slice_get l.fn.self.nodes.items l.cursor ≡ Some node → LeadsAt l.subject.spec.now l.self.moves.table.keys l.self.nodes.items l.self.lost node i place;
}
