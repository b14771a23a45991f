-- Marks of local states, bit by bit.
use Rattle.std.proofs.Common.{◌≡◌, ℕ, Bool, true, false, not, eqb, refl, ◌*◌, ◌%◌, ◌^◌, ◌<◌, min, w64, bit_and, bit_or, sym, ◌∙◌, subst, arith, inl, inr, ◌⊎◌}
use Rattle.std.specs.Int.{bit_at, bit_not}
use Rattle.std.specs.Int.{trailing_zeros}
use Rattle.std.proofs.lemmas.Bool.{cases_eq, eqb-false, true≢false}
use Rattle.std.proofs.lemmas.Nat.{and_le_l}
use Rattle.std.proofs.lemmas.Nat.Bits.{bit_at-lt, bit_at-trailing_zeros, bit_at-zero, bit_at_and, bit_at_not, bit_at_set_other, bit_at_set_same}
use Rattle.run_search.specs.Marks.{AreMarksOf}
use Rattle.run_search.specs.declared.local_state.LocalState.{LocalState}
use Rattle.std.proofs.Math.Nat.{min-le_left, min-le_right}

pub bit_kept : (n m k : ℕ) → m < 64 → bit_at n k ≡ 1 → bit_at (bit_or n (1 * 2 ^ m % 2 ^ 64)) k ≡ 1
bit_kept n m k within is = elim (cases_eq k m) [
  | inl same ↦ subst (λ (i : ℕ). bit_at (bit_or n (1 * 2 ^ m % 2 ^ 64)) i ≡ 1) (sym same) (bit_at_set_same w64 n m within)
  | inr other ↦ bit_at_set_other w64 n m within k other ∙ is
]

pub bit_here : (n m : ℕ) → m < 64 → bit_at (bit_or n (1 * 2 ^ m % 2 ^ 64)) m ≡ 1
bit_here n m within = bit_at_set_same w64 n m within

pub bit_cases : (n m k : ℕ) → m < 64 → bit_at (bit_or n (1 * 2 ^ m % 2 ^ 64)) k ≡ 1 → (bit_at n k ≡ 1) ⊎ (m ≡ k)
bit_cases n m k within is = elim (cases_eq k m) [
  | inl same ↦ inr (sym same)
  | inr other ↦ inl (sym (bit_at_set_other w64 n m within k other) ∙ is)
]

pub no_marks : (has : ℕ → LocalState → Type 0) → AreMarksOf has 0
no_marks has k is = let none = bit_at-zero k in absurd (omega (arith, none, is))

not_true : (b : Bool) → not b ≡ true → b ≡ false
not_true false is = refl
not_true true is = absurd (true≢false (sym is))

-- a bit that is set in the one word and not in the other
pub other_bit : (a b : ℕ) → a < 2 ^ 64 → b < 2 ^ 64 → not (eqb (bit_and a (bit_not w64 b)) 0) ≡ true → (k : ℕ) × (bit_at a k ≡ 1) × (bit_at b k ≡ 1 → ⊥)
other_bit a b a_fits b_fits some =
    let both = bit_and a (bit_not w64 b) in
    let few = and_le_l a (bit_not w64 b) in
    let k = trailing_zeros w64 both in
    let more : 0 < both = elim (cases_eq both 0) [
      | inl none ↦ absurd (eqb-false both 0 (not_true (eqb both 0) some) none)
      | inr other ↦ omega (arith, other)
    ] in
    let found = bit_at-trailing_zeros w64 both more (omega (arith, few, a_fits)) in
    let is : min (bit_at a k) (bit_at (bit_not w64 b) k) ≡ 1 = sym (bit_at_and a (bit_not w64 b) k) ∙ found.1 in
    let first = min-le_left (bit_at a k) (bit_at (bit_not w64 b) k) in
    let second = min-le_right (bit_at a k) (bit_at (bit_not w64 b) k) in
    let small = bit_at-lt a k in
    let not_is = bit_at_not w64 b k b_fits found.0 in
    (k, omega (arith, is, first, small), λ other. omega (arith, is, second, not_is, other))
