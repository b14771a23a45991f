use Rattle.std.proofs.Common.{◌≡◌, ◌<◌, ℕ}
use Rattle.std.specs.Int.{bit_at}
use Rattle.std.specs.List.{Contains}
use Rattle.run_search.specs.Limits.{AreMarksIn}
use Rattle.run_search.specs.Marks.{mark_of}
use Rattle.run_search.specs.Nodes.{set_of}
use Rattle.run_search.specs.declared.local_state.LocalState.{LocalState}
use Rattle.run_search.proofs.node.Node.marks.Given as goal

abbrev pub invariant-loop-p : goal.invariant-loop-p
invariant-loop-p l = record {
  all : (q : ℕ) (local : LocalState) → q < l.p → Contains (set_of l.self q) local → bit_at l.marks (mark_of q local) ≡ 1;
  each : AreMarksIn l.self l.marks;
}
