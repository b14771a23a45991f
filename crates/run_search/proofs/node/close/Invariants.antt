use Rattle.std.proofs.Common.{◌<◌, ℕ, get_or}
use Rattle.std.specs.List.{Contains}
use Rattle.run_search.specs.declared.local_state.LocalState.{LocalState}
use Rattle.run_search.specs.States.{blank}
use Rattle.run_search.specs.Nodes.{IsComeTo, IsSetClosed}
use Rattle.run_search.proofs.node.close.Given as goal

abbrev pub invariant-loop-local : goal.invariant-loop-local
invariant-loop-local l = record {
  kept : (i : ℕ) → i < l.local-index → Contains l.set.items (get_or l.old i blank);
  come : (to : LocalState) → Contains l.set.items to → IsComeTo l.spec l.row.items l.p l.old to;
  closed : IsSetClosed l.spec l.row.items l.p l.set.items;
}
