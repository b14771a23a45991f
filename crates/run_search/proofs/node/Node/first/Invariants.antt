use Rattle.std.proofs.Common.{◌≡◌, ◌<◌, ◌∷◌, [], ℕ, length, map, get_or}
use Rattle.run_search.specs.Nodes.{IsGrown}
use Rattle.run_search.specs.States.{local_of}
use Rattle.run_search.proofs.node.Node.first.Given as goal

abbrev pub invariant-loop-p : goal.invariant-loop-p
invariant-loop-p l = record {
  width : length (map (λ set. set.value.items) l.own.items) ≡ l.p;
  each : (q : ℕ) → q < l.p → IsGrown l.spec l.row.items q (local_of l.spec [] q ∷ []) (get_or (map (λ set. set.value.items) l.own.items) q []);
}
