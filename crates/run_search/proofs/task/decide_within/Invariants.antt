use Rattle.std.proofs.Common.{◌<◌, ◌≡◌, ℕ, get_or}
use Rattle.std.specs.List.{Contains}
use Rattle.run_search.specs.declared.local_state.Due.TheVariants.{Decided}
use Rattle.run_search.specs.States.{blank}
use Rattle.run_search.specs.Tasks.{decided_values}
use Rattle.run_search.proofs.task.decide_within.Given as goal

abbrev pub invariant-loop-local : goal.invariant-loop-local
invariant-loop-local l = (i v : ℕ) → i < l.local-index → (get_or l.one.items i blank).due ≡ Decided v → Contains (decided_values l.other.items) v
