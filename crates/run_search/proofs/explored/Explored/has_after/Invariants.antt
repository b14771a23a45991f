use Rattle.std.proofs.Common.{◌≡◌, ◌<◌, ℕ, Some, get_or}
use Rattle.std.specs.Prelude.{slice_get}
use Rattle.run_search.specs.Limits.{HasMarks, IsWithoutAfter, no_entry}
use Rattle.run_search.specs.Nodes.{Node}
use Rattle.run_search.proofs.explored.Explored.has_after.Given as goal

abbrev pub invariant-loop-entry : goal.invariant-loop-entry
invariant-loop-entry l =
    (k : ℕ) → k < l.entry-index → (one : Node) → slice_get l.self.nodes.items (get_or l.entry-items k no_entry).index ≡ Some one → HasMarks one (get_or l.entry-items k no_entry).marks
    → IsWithoutAfter l.spec l.after.node.now l.after.process l.after.new l.after.row.now.items one
