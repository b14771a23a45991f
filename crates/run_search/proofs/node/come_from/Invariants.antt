use Rattle.std.proofs.Common.{◌<◌, ℕ, get_or}
use Rattle.run_search.specs.Nodes.{GoesAlone}
use Rattle.run_search.specs.States.{blank}
use Rattle.run_search.proofs.node.come_from.Given as goal

abbrev pub invariant-loop-local : goal.invariant-loop-local
invariant-loop-local l = (i : ℕ) → i < l.local-index → (steps : ℕ) → GoesAlone l.spec l.row.items l.p steps (get_or l.set i blank) l.to → ⊥
