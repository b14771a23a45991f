-- The greatest of some numbers, and the first that is it.
use Rattle.std.proofs.Common.{◌≡◌, ◌≢◌, ◌⊎◌, ℕ, zero, suc, ◌+◌, ◌<◌, ◌≤◌, max, eqb, inl, inr, map, get_or, refl, sym, ap, ◌∙◌, subst, arith}
use mathlib.Core.Logic.{dite}
use native.Mathlib.Decide.{ℕ_discrete}
use Rattle.std.specs.List.{range_with_len}
use Rattle.std.proofs.lemmas.Bool.{eq-eqb, ne_eqb, cases_lt}
use Rattle.std.proofs.lemmas.List.Sums.{position_or_len_is}
use Rattle.std.proofs.lemmas.List.FromFn.{length-map-range_with_len, get_or-map-range_with_len}
use Rattle.sim_memory.specs.Steps.{greatest_of, merged_of, holder_of, IsHolder}

-- ---- the greatest

pub greatest_at : (m : ℕ) (numbers : ℕ → ℕ) (i : ℕ) → i < m → numbers i ≤ greatest_of m numbers
greatest_at zero numbers i below = absurd (omega arith)
greatest_at (suc m) numbers i below =
    dite (ℕ_discrete i m)
    (λ (e : i ≡ m). let same : numbers i ≡ numbers m = ap numbers e in omega arith)
    (λ (n : i ≢ m). let h = greatest_at m numbers i (omega arith) in omega arith)

pub greatest_below : (m : ℕ) (numbers : ℕ → ℕ) (bound : ℕ) → ((i : ℕ) → i < m → numbers i ≤ bound) → greatest_of m numbers ≤ bound
greatest_below zero numbers bound each = omega arith
greatest_below (suc m) numbers bound each =
    let h = greatest_below m numbers bound (λ i below. each i (omega arith)) in
    let last = each m (omega arith) in
    omega arith

pub greatest_is : (m : ℕ) (numbers : ℕ → ℕ) (i : ℕ) → i < m → ((k : ℕ) → k < m → numbers k ≤ numbers i) → greatest_of m numbers ≡ numbers i
greatest_is m numbers i below each = let h = greatest_below m numbers (numbers i) each in let k = greatest_at m numbers i below in omega arith

pub greatest_grows : (m : ℕ) (numbers others : ℕ → ℕ) → ((i : ℕ) → i < m → numbers i ≤ others i) → greatest_of m numbers ≤ greatest_of m others
greatest_grows zero numbers others each = omega arith
greatest_grows (suc m) numbers others each =
    let h = greatest_grows m numbers others (λ i below. each i (omega arith)) in
    let last = each m (omega arith) in
    omega arith

pub greatest_same : (m : ℕ) (numbers others : ℕ → ℕ) → ((i : ℕ) → i < m → numbers i ≡ others i) → greatest_of m numbers ≡ greatest_of m others
greatest_same zero numbers others each = refl
greatest_same (suc m) numbers others each =
    let h = greatest_same m numbers others (λ i below. each i (omega arith)) in
    let last = each m (omega arith) in
    omega arith

pub greatest_raised : (m : ℕ) (numbers others : ℕ → ℕ) (i : ℕ) → i < m → others i ≡ numbers i + 1 → ((k : ℕ) → k < m → k ≢ i → others k ≡ numbers k) → greatest_of m others ≡ max (greatest_of m numbers) (numbers i + 1)
greatest_raised zero numbers others i below own else = absurd (omega arith)
greatest_raised (suc m) numbers others i below own else =
    dite (ℕ_discrete m i)
    (λ (e : m ≡ i).
    let h = greatest_same m others numbers (λ k within. else k (omega arith) (λ is. let q : k ≡ i = is in omega arith)) in
    let same : numbers m ≡ numbers i = ap numbers e in
    let same' : others m ≡ others i = ap others e in
    omega arith)
    (λ (n : m ≢ i).
    let h = greatest_raised m numbers others i (omega arith) own (λ k within other. else k (omega arith) other) in
    let last = else m (omega arith) n in
    omega arith)

-- ---- the first that is the greatest

column_at : (m : ℕ) (steps : ℕ → ℕ → ℕ) (p i : ℕ) → i < m → get_or (map (λ i. steps i p) (range_with_len 0 m)) i 0 ≡ steps i p
column_at m steps p i below = get_or-map-range_with_len _ 0 m i i 0 below (omega arith)

pub holder_merged : (m : ℕ) (steps : ℕ → ℕ → ℕ) (p holder : ℕ) → IsHolder m steps p holder → merged_of m steps p ≡ steps holder p
holder_merged m steps p holder is = greatest_is m (λ i. steps i p) holder is.below is.greatest

pub holder_is : (m : ℕ) (steps : ℕ → ℕ → ℕ) (p holder : ℕ) → IsHolder m steps p holder → holder_of m steps p ≡ holder
holder_is m steps p holder is =
    let merged = holder_merged m steps p holder is in
    let long = length-map-range_with_len (λ i. steps i p) 0 m in
    position_or_len_is (λ step. eqb step (merged_of m steps p)) (map (λ i. steps i p) (range_with_len 0 m)) holder 0
    (let b = is.below in omega arith)
    (λ k before. ne_eqb _ _ (λ e. let b = is.below in let at = column_at m steps p k (omega arith) in let less = is.least k before in absurd (omega arith)))
    (λ within. eq-eqb _ _ (column_at m steps p holder is.below ∙ sym merged))

-- one simulator more: it is the holder where its number is greater, and else the holder stays
pub holder_passed : (m : ℕ) (steps : ℕ → ℕ → ℕ) (p holder : ℕ) → IsHolder m steps p holder → steps holder p < steps m p → IsHolder (suc m) steps p m
holder_passed m steps p holder is more = record {
  below = omega arith;
  greatest = λ i below.
      dite (ℕ_discrete i m)
      (λ (e : i ≡ m). let same : steps i p ≡ steps m p = ap (λ (k : ℕ). steps k p) e in omega arith)
      (λ (n : i ≢ m). let h = is.greatest i (omega arith) in omega arith);
  least = λ i before. let h = is.greatest i before in omega arith;
}

pub holder_kept : (m : ℕ) (steps : ℕ → ℕ → ℕ) (p holder : ℕ) → IsHolder m steps p holder → steps m p ≤ steps holder p → IsHolder (suc m) steps p holder
holder_kept m steps p holder is no_more = record {
  below = let b = is.below in omega arith;
  greatest = λ i below.
      dite (ℕ_discrete i m)
      (λ (e : i ≡ m). let same : steps i p ≡ steps m p = ap (λ (k : ℕ). steps k p) e in omega arith)
      (λ (n : i ≢ m). is.greatest i (omega arith));
  least = is.least;
}

holder_by_order : (m : ℕ) (steps : ℕ → ℕ → ℕ) (p holder : ℕ) → IsHolder m steps p holder → (steps holder p < steps m p) ⊎ (steps m p ≤ steps holder p) → (h : ℕ) × IsHolder (suc m) steps p h
holder_by_order m steps p holder is (inl more) = (m, holder_passed m steps p holder is more)
holder_by_order m steps p holder is (inr no_more) = (holder, holder_kept m steps p holder is no_more)

holder_more : (m : ℕ) (steps : ℕ → ℕ → ℕ) (p holder : ℕ) → IsHolder m steps p holder → (h : ℕ) × IsHolder (suc m) steps p h
holder_more m steps p holder is = holder_by_order m steps p holder is (cases_lt _ _)

pub alone : (steps : ℕ → ℕ → ℕ) (p : ℕ) → IsHolder 1 steps p 0
alone steps p = record {
  below = omega arith;
  greatest = λ i below. let same : steps i p ≡ steps 0 p = let z : i ≡ 0 = omega arith in ap (λ (k : ℕ). steps k p) z in omega arith;
  least = λ i before. absurd (omega arith);
}

pub some_holder : (m : ℕ) (steps : ℕ → ℕ → ℕ) (p : ℕ) → 0 < m → (h : ℕ) × IsHolder m steps p h
some_holder zero steps p some = absurd (omega arith)
some_holder (suc zero) steps p some = (0, alone steps p)
some_holder (suc (suc m)) steps p some = let h = some_holder (suc m) steps p (omega arith) in holder_more (suc m) steps p h.0 h.1

pub holder_of_is : (m : ℕ) (steps : ℕ → ℕ → ℕ) (p : ℕ) → 0 < m → IsHolder m steps p (holder_of m steps p)
holder_of_is m steps p some = let h = some_holder m steps p some in subst (λ (k : ℕ). IsHolder m steps p k) (sym (holder_is m steps p h.0 h.1)) h.1
