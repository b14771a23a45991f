use Rattle.std.proofs.Common.{◌≡◌, ◌<◌, ℕ, Some, get_or}
use Rattle.std.specs.Prelude.{slice_get}
use Rattle.room_core.specs.Calls.{configuration_of}
use Rattle.room_search.specs.declared.local.Local.{Local}
use Rattle.room_search.specs.Nodes.{set_of}
use Rattle.room_search.specs.Taking.{MustHaveCrashed}
use Rattle.room_search.proofs.choice.is_alive_in.Given as goal

abbrev pub invariant-loop-number : goal.invariant-loop-number
invariant-loop-number l = (k : ℕ) → k < l.number-index → (local : Local) → slice_get l.source.explored.now.moves.table.keys (get_or (set_of l.node l.i) k 0) ≡ Some local
    → MustHaveCrashed l.source.subject.now.spec.now (configuration_of l.source.subject.now.start.now) l.node l.i local
