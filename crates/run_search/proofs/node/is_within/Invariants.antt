use Rattle.std.proofs.Common.{◌<◌, ℕ, get_or}
use Rattle.std.specs.List.{Contains}
use Rattle.run_search.specs.States.{blank}
use Rattle.run_search.proofs.node.is_within.Given as goal

abbrev pub invariant-loop-local : goal.invariant-loop-local
invariant-loop-local l = (i : ℕ) → i < l.local-index → Contains l.all (get_or l.some i blank)
