use Rattle.std.proofs.Common.{◌<◌, ℕ}
use Rattle.room_search.specs.Nodes.{AreIn, set_of}
use Rattle.room_search.proofs.node.Node.is_below.Given as goal

abbrev pub invariant-loop-i : goal.invariant-loop-i
invariant-loop-i l = (j : ℕ) → j < l.i → AreIn (set_of l.self j) (set_of l.above j)
