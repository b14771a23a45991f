-- Rows of maps of step numbers.
use Rattle.std.proofs.Common.{◌≡◌, ◌≢◌, ◌⊎◌, ℕ, ◌+◌, ◌<◌, ◌≤◌, max, Bool, true, false, cond, inl, inr, length, get_or, refl, sym, ap, ◌∙◌, arith}
use mathlib.Core.Logic.{dite}
use native.Mathlib.Decide.{ℕ_discrete}
use Rattle.std.proofs.lemmas.Bool.{cases_lt, and_from, and_left, and_right, eq-eqb, ne_eqb}
use Rattle.std.proofs.lemmas.List.{same_lists}
use Rattle.std.proofs.lemmas.List.FromFn.{length-map-range_with_len, get_or-map-range_with_len}
use Rattle.sim_memory.specs.Steps.{merged_of, holder_of, IsHolder, row_of, IsRowAtMost, AreAtMost, AreSameSteps, IsRaised, one_more}
use Rattle.sim_memory.proofs.Greatest.{greatest_at, greatest_below, greatest_grows, greatest_same, greatest_raised, holder_merged, holder_is, some_holder}

-- ---- one process

pub merged_at : (m : ℕ) (steps : ℕ → ℕ → ℕ) (i p : ℕ) → i < m → steps i p ≤ merged_of m steps p
merged_at m steps i p below = greatest_at m (λ k. steps k p) i below

pub merged_reached : (m : ℕ) (steps : ℕ → ℕ → ℕ) (p : ℕ) → 0 < m → (i : ℕ) × (i < m) × (steps i p ≡ merged_of m steps p)
merged_reached m steps p some = let h = some_holder m steps p some in let is = h.1 in (h.0, is.below, sym (holder_merged m steps p h.0 is))

pub merged_below : (m : ℕ) (steps : ℕ → ℕ → ℕ) (p bound : ℕ) → ((i : ℕ) → i < m → steps i p ≤ bound) → merged_of m steps p ≤ bound
merged_below m steps p bound each = greatest_below m (λ k. steps k p) bound each

-- ---- rows

pub row_length : (m n : ℕ) (steps : ℕ → ℕ → ℕ) → length (row_of m n steps) ≡ n
row_length m n steps = length-map-range_with_len _ 0 n

pub row_at : (m n : ℕ) (steps : ℕ → ℕ → ℕ) (p : ℕ) → p < n → get_or (row_of m n steps) p 0 ≡ merged_of m steps p
row_at m n steps p below = get_or-map-range_with_len _ 0 n p p 0 below (omega arith)

pub row_grows : (m n : ℕ) (steps others : ℕ → ℕ → ℕ) → AreAtMost m n steps others → IsRowAtMost (row_of m n steps) (row_of m n others)
row_grows m n steps others least = record {
  same_length = row_length m n steps ∙ sym (row_length m n others);
  each = λ p within.
      let below : p < n = let l = row_length m n steps in omega arith in
      let one = row_at m n steps p below in
      let other = row_at m n others p below in
      let more : merged_of m steps p ≤ merged_of m others p = greatest_grows m (λ i. steps i p) (λ i. others i p) (λ i b. least i p b below) in
      omega arith;
}

pub merged_same : (m n : ℕ) (steps others : ℕ → ℕ → ℕ) (p : ℕ) → p < n → AreSameSteps m n steps others → merged_of m steps p ≡ merged_of m others p
merged_same m n steps others p below same = greatest_same m (λ i. steps i p) (λ i. others i p) (λ i b. same i p b below)

pub row_same : (m n : ℕ) (steps others : ℕ → ℕ → ℕ) → AreSameSteps m n steps others → row_of m n steps ≡ row_of m n others
row_same m n steps others same =
    let l = row_length m n steps in
    same_lists (row_of m n steps) (row_of m n others) (l ∙ sym (row_length m n others)) (λ p d within.
    let below : p < n = omega arith in
    get_or-map-range_with_len _ 0 n p p d below (omega arith) ∙ merged_same m n steps others p below same ∙ sym (get_or-map-range_with_len _ 0 n p p d below (omega arith)))

pub column_same : (m : ℕ) (steps others : ℕ → ℕ → ℕ) (p holder : ℕ) → ((i : ℕ) → i < m → steps i p ≡ others i p) → IsHolder m steps p holder → IsHolder m others p holder
column_same m steps others p holder same is =
    let own = same holder is.below in
    record {
      below = is.below;
      greatest = λ i below. let h = is.greatest i below in let e = same i below in omega arith;
      least = λ i before. let h = is.least i before in let e = same i (let b = is.below in omega arith) in omega arith;
    }

pub holder_same : (m n : ℕ) (steps others : ℕ → ℕ → ℕ) (p : ℕ) → 0 < m → p < n → AreSameSteps m n steps others → holder_of m steps p ≡ holder_of m others p
holder_same m n steps others p some below same =
    let h = some_holder m steps p some in
    holder_is m steps p h.0 h.1 ∙ sym (holder_is m others p h.0 (column_same m steps others p h.0 (λ i b. same i p b below) h.1))

-- ---- one more write

pub raised_own : (m n : ℕ) (steps after : ℕ → ℕ → ℕ) (i p : ℕ) → i < m → p < n → IsRaised m n steps i p after → merged_of m after p ≡ max (merged_of m steps p) (steps i p + 1)
raised_own m n steps after i p below within raised = greatest_raised m (λ k. steps k p) (λ k. after k p) i below raised.own (λ k b other. raised.other_simulators k p b within other)

raised_cases : (a b c : ℕ) → c ≡ max a (b + 1) → b ≤ a → (b < a) ⊎ (a ≤ b) → (c ≡ a) ⊎ (c ≡ a + 1)
raised_cases a b c is most (inl less) = inl (omega arith)
raised_cases a b c is most (inr equal) = inr (omega arith)

raised_max : (a b c : ℕ) → c ≡ max a (b + 1) → b ≤ a → (c ≡ a) ⊎ (c ≡ a + 1)
raised_max a b c is most = raised_cases a b c is most (cases_lt b a)

pub raised_by_one : (m n : ℕ) (steps after : ℕ → ℕ → ℕ) (i p : ℕ) → i < m → p < n → IsRaised m n steps i p after → (merged_of m after p ≡ merged_of m steps p) ⊎ (merged_of m after p ≡ merged_of m steps p + 1)
raised_by_one m n steps after i p below within raised = raised_max (merged_of m steps p) (steps i p) (merged_of m after p) (raised_own m n steps after i p below within raised) (merged_at m steps i p below)

raised_else : (m n : ℕ) (steps after : ℕ → ℕ → ℕ) (i p : ℕ) → i < m → p < n → IsRaised m n steps i p after → (k q : ℕ) → k < m → q < n → q ≢ p → after k q ≡ steps k q
raised_else m n steps after i p below within raised k q b w other =
    dite (ℕ_discrete k i)
    (λ (e : k ≡ i). ap (λ (x : ℕ). after x q) e ∙ raised.other_processes q w other ∙ ap (λ (x : ℕ). steps x q) (sym e))
    (λ (n' : k ≢ i). raised.other_simulators k q b w n')

pub raised_others : (m n : ℕ) (steps after : ℕ → ℕ → ℕ) (i p : ℕ) → i < m → p < n → IsRaised m n steps i p after → (q : ℕ) → q < n → q ≢ p → merged_of m after q ≡ merged_of m steps q
raised_others m n steps after i p below within raised q w other = greatest_same m (λ k. after k q) (λ k. steps k q) (λ k b. raised_else m n steps after i p below within raised k q b w other)

-- nothing is lower after it
pub raised_grows : (m n : ℕ) (steps after : ℕ → ℕ → ℕ) (i p : ℕ) → i < m → p < n → IsRaised m n steps i p after → AreAtMost m n steps after
raised_grows m n steps after i p below within raised k q b w =
    dite (ℕ_discrete q p)
    (λ (e : q ≡ p).
    dite (ℕ_discrete k i)
    (λ (e' : k ≡ i). let own = raised.own in let one : steps k q ≡ steps i p = ap (λ (x : ℕ). steps x q) e' ∙ ap (λ (x : ℕ). steps i x) e in let two : after k q ≡ after i p = ap (λ (x : ℕ). after x q) e' ∙ ap (λ (x : ℕ). after i x) e in omega arith)
    (λ (n' : k ≢ i). let h = raised.other_simulators k q b w n' in omega arith))
    (λ (n' : q ≢ p). let h = raised_else m n steps after i p below within raised k q b w n' in omega arith)

cond_one_more : (b : Bool) (n : ℕ) → b ≡ true → cond b (n + 1) n ≡ n + 1
cond_one_more b n is = rw is refl

cond_as_it_was : (b : Bool) (n : ℕ) → b ≡ false → cond b (n + 1) n ≡ n
cond_as_it_was b n is = rw is refl

pub one_more_raised : (m n : ℕ) (steps : ℕ → ℕ → ℕ) (i p : ℕ) → IsRaised m n steps i p (one_more steps i p)
one_more_raised m n steps i p = record {
  own = cond_one_more _ (steps i p) (and_from _ _ (eq-eqb i i refl) (eq-eqb p p refl));
  other_simulators = λ k q _ _ other. cond_as_it_was _ (steps k q) (and_left _ _ (ne_eqb k i other));
  other_processes = λ q _ other. cond_as_it_was _ (steps i q) (and_right _ _ (ne_eqb q p other));
}
