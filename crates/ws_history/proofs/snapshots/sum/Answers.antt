use Rattle.std.proofs.Common.{ℕ, ◌≡◌, ◌≤◌, ◌∙◌, List, sum, sym, ap, subst, arith, rules}
use Rattle.std.proofs.lemmas.List.{get_or_default, map-id}
use Rattle.std.proofs.lemmas.List.Sums.{sum-map, sum_by-le}
use Rattle.ws_history.proofs.snapshots.sum.Goals as goal

pub returns-clause-range : goal.returns-clause-range
returns-clause-range c =
    let row : List ℕ = c.args.row.now in
    let value : c.sum.result ≡ sum row = search rules in
    let most = sum_by-le (λ (x : ℕ). x) 15 row (λ i d below. subst (λ (x : ℕ). x ≤ 15) (get_or_default row i 0 d below) (c.requires.range i)) in
    omega (arith, value, sym (ap sum (map-id row)) ∙ sum-map (λ (x : ℕ). x) row, most, c.requires.count)
