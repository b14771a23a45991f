use Rattle.std.proofs.Common.{◌<◌, ℕ}
use Rattle.std.specs.List.{Contains}
use Rattle.run_search.specs.declared.local_state.LocalState.{LocalState}
use Rattle.run_search.specs.Limits.{IsAfter}
use Rattle.run_search.specs.Nodes.{set_of}
use Rattle.run_search.proofs.node.has_after.Given as goal

abbrev pub invariant-loop-q : goal.invariant-loop-q
invariant-loop-q l = (r : ℕ) (local : LocalState) → r < l.q → IsAfter l.after.node.now l.after.process l.after.new r local → Contains (set_of l.above r) local
