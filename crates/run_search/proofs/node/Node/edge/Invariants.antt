use Rattle.std.proofs.Common.{◌≡◌, ◌<◌, [], ℕ, length, map, get_or}
use Rattle.run_search.specs.Nodes.{IsGrown, set_of}
use Rattle.run_search.proofs.node.Node.edge.Given as goal

abbrev pub invariant-loop-q : goal.invariant-loop-q
invariant-loop-q l = record {
  width : length (map (λ set. set.value.items) l.all.items) ≡ l.q;
  own : (q : ℕ) → q < l.q → q ≡ l.p → IsGrown l.spec l.written.row.value.items q l.own (get_or (map (λ set. set.value.items) l.all.items) q []);
  others : (q : ℕ) → q < l.q → (q ≡ l.p → ⊥) → IsGrown l.spec l.written.row.value.items q (set_of l.self q) (get_or (map (λ set. set.value.items) l.all.items) q []);
}
