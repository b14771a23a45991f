-- Sums of maps, and whether two maps are the same.
use Rattle.std.proofs.Common.{◌≡◌, ◌≢◌, ◌⊎◌, ℕ, zero, suc, ◌*◌, ◌<◌, ◌≤◌, Bool, true, false, eqb, inl, inr, refl, ap, ◌∙◌, arith}
use Rattle.std.specs.Prelude.{◌&&◌}
use Rattle.std.proofs.Math.Nat.{suc-mul}
use Rattle.std.proofs.lemmas.Bool.{eqb-true, eqb-false}
use mathlib.Core.Logic.{dite}
use native.Mathlib.Decide.{ℕ_discrete}
use Rattle.room_spec.specs.Sizes.{Sizes}
use Rattle.sim_memory.specs.Steps.{AreAtMost, AreSameSteps, AreWithin}
use Rattle.room_core.specs.Fields.{StepMap, all_below, same_steps}
use Rattle.room_core.proofs.moments.Collects.{sum_below, sum_of}

-- ---- all of the first

and_true : (a b : Bool) → a && b ≡ true → (a ≡ true) × (b ≡ true)
and_true true b is = (refl, is)
and_true false b is = absurd cc

and_false : (a b : Bool) → a && b ≡ false → (a ≡ false) ⊎ (b ≡ false)
and_false true b is = inr is
and_false false b is = inl refl

pub all_at : (n : ℕ) (test : ℕ → Bool) (i : ℕ) → all_below n test ≡ true → i < n → test i ≡ true
all_at zero test i all below = absurd (omega arith)
all_at (suc n) test i all below =
    let both = and_true (all_below n test) (test n) all in
    dite (ℕ_discrete i n)
    (λ (e : i ≡ n). ap test e ∙ both.1)
    (λ (other : i ≢ n). all_at n test i both.0 (omega arith))

pub not_all : (n : ℕ) (test : ℕ → Bool) → all_below n test ≡ false → (i : ℕ) × (i < n) × (test i ≡ false)
not_all zero test none = absurd cc
not_all (suc n) test none =
    elim (and_false (all_below n test) (test n) none) as (λ _. (i : ℕ) × (i < suc n) × (test i ≡ false)) [
      | inl less ↦ let found = not_all n test less in (found.0, omega (arith, found.1), found.2)
      | inr last ↦ (n, omega arith, last)
    ]

pub same_of : (m n : ℕ) (map other : StepMap) → same_steps m n map other ≡ true → AreSameSteps m n map other
same_of m n map other is i p below within = eqb-true _ _ (all_at n (λ q. eqb (map i q) (other i q)) p (all_at m (λ a. all_below n (λ q. eqb (map a q) (other a q))) i is below) within)

pub differ_at : (m n : ℕ) (map other : StepMap) → same_steps m n map other ≡ false → (i p : ℕ) × (i < m) × (p < n) × (map i p ≢ other i p)
differ_at m n map other is =
    let row = not_all m (λ a. all_below n (λ q. eqb (map a q) (other a q))) is in
    let place = not_all n (λ q. eqb (map row.0 q) (other row.0 q)) row.2 in
    (row.0, place.0, row.1, place.1, eqb-false _ _ place.2)

-- ---- sums

pub sum_most : (n : ℕ) (numbers : ℕ → ℕ) (most : ℕ) → ((i : ℕ) → i < n → numbers i ≤ most) → sum_below n numbers ≤ n * most
sum_most zero numbers most each = omega arith
sum_most (suc n) numbers most each =
    let rest = sum_most n numbers most (λ i below. each i (omega arith)) in
    let last = each n (omega arith) in
    omega (arith, rest, last, suc-mul n most)

pub sum_grows : (n : ℕ) (numbers others : ℕ → ℕ) → ((i : ℕ) → i < n → numbers i ≤ others i) → sum_below n numbers ≤ sum_below n others
sum_grows zero numbers others each = omega arith
sum_grows (suc n) numbers others each = omega (arith, sum_grows n numbers others (λ i below. each i (omega arith)), each n (omega arith))

pub sum_more : (n : ℕ) (numbers others : ℕ → ℕ) (i : ℕ) → ((k : ℕ) → k < n → numbers k ≤ others k) → i < n → numbers i < others i → sum_below n numbers < sum_below n others
sum_more zero numbers others i each below less = absurd (omega arith)
sum_more (suc n) numbers others i each below less = dite (ℕ_discrete i n)
    (λ (e : i ≡ n).
    let here : numbers i ≡ numbers n = ap numbers e in
    let there : others i ≡ others n = ap others e in
    omega (arith, here, there, less, sum_grows n numbers others (λ k within. each k (omega arith))))
    (λ (other : i ≢ n). omega (arith, sum_more n numbers others i (λ k within. each k (omega arith)) (omega arith) less, each n (omega arith)))

pub sum_within : (sizes : Sizes) (map : StepMap) → AreWithin sizes map → sum_of sizes map ≤ sizes.m * (sizes.n * sizes.rounds)
sum_within sizes map within = sum_most sizes.m (λ i. sum_below sizes.n (map i)) (sizes.n * sizes.rounds) (λ i below. sum_most sizes.n (map i) sizes.rounds (λ p inside. within i p below inside))

-- a map that is nowhere lower and isn't the same has a greater sum
pub sum_rises : (sizes : Sizes) (map other : StepMap) → AreAtMost sizes.m sizes.n map other → same_steps sizes.m sizes.n other map ≡ false → sum_of sizes map < sum_of sizes other
sum_rises sizes map other most is =
    let at = differ_at sizes.m sizes.n other map is in
    let less : map at.0 at.1 < other at.0 at.1 = let h = most at.0 at.1 at.2 at.3 in let differ = at.4 in by_order (map at.0 at.1) (other at.0 at.1) h differ in
    sum_more sizes.m (λ i. sum_below sizes.n (map i)) (λ i. sum_below sizes.n (other i)) at.0
    (λ i below. sum_grows sizes.n (map i) (other i) (λ p inside. most i p below inside)) at.2
    (sum_more sizes.n (map at.0) (other at.0) at.1 (λ p inside. most at.0 p at.2 inside) at.3 less)
  where
    by_order : (a b : ℕ) → a ≤ b → b ≢ a → a < b
    by_order a b le differ = dite (ℕ_discrete b a) (λ (e : b ≡ a). absurd (differ e)) (λ (n' : b ≢ a). omega arith)
