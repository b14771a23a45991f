-- No row of memory words shows more writes than there are rounds.
use Rattle.std.proofs.Common.{ℕ, zero, suc, ◌+◌, ◌≤◌, List, map, get_or, arith}
use Rattle.std.specs.List.{range_with_len}
use Rattle.room_spec.specs.Sizes.{Sizes}
use Rattle.sim_memory.specs.Steps.{greatest_of, merged_of, row_of, step_in}
use Rattle.sim_memory.proofs.CallerLemmas.{step_below}

greatest_low : (m bound : ℕ) (numbers : ℕ → ℕ) → ((i : ℕ) → numbers i ≤ bound) → greatest_of m numbers ≤ bound
greatest_low zero bound numbers low = omega arith
greatest_low (suc m) bound numbers low =
    let rest = greatest_low m bound numbers low in
    let one = low m in
    omega arith

all_low : (bound : ℕ) (f : ℕ → ℕ) (a n p : ℕ) → ((q : ℕ) → f q ≤ bound) → get_or (map f (range_with_len a n)) p 0 ≤ bound
all_low bound f a zero p low = omega arith
all_low bound f a (suc n) zero low = low a
all_low bound f a (suc n) (suc p) low = all_low bound f (a + 1) n p low

pub row_low : (sizes : Sizes) (words : List ℕ) (p : ℕ) → get_or (row_of sizes.m sizes.n (step_in sizes words)) p 0 ≤ sizes.rounds
row_low sizes words p =
    all_low sizes.rounds (λ q. merged_of sizes.m (step_in sizes words) q) 0 sizes.n p
    (λ q. greatest_low sizes.m sizes.rounds (λ i. step_in sizes words i q) (λ i. step_below sizes words i q))
