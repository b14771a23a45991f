-- The least simulator at a level, by a word that has the levels.
use Rattle.std.proofs.Common.{◌≡◌, ◌≢◌, ◌↔◌, ℕ, zero, suc, ◌+◌, ◌-◌, ◌*◌, ◌/◌, ◌%◌, ◌^◌, ◌<◌, ◌≤◌, inl, inr, min, refl, eqb, length, get_or, not, Some, None, sym, ap, ◌∙◌, arith, w64}
use Rattle.std.specs.Prelude.{bit_and}
use Rattle.std.specs.Int.{bit_at, trailing_zeros}
use Rattle.std.specs.List.{position, position_or_len}
use Rattle.std.proofs.lemmas.Bool.{cases_lt, eq-eqb, ne_eqb, lt-ltb, le-ltb}
use Rattle.std.proofs.lemmas.Nat.{shr-shr}
use Rattle.std.proofs.lemmas.Nat.Bits.{bit_at_and, bit_at_lowest, bit_at-lt, bit_at_ones, bit_at_ones_above, bit_at-suc, bit_at-trailing_zeros, bit_at-zero}
use Rattle.std.proofs.lemmas.List.FromFn.{length-map-range_with_len, get_or-map-range_with_len}
use Rattle.std.proofs.lemmas.List.Sums.{position_or_len_is}
use Rattle.level_cells.specs.Fields.{level_of, levels_of}
use Rattle.safe_agreement.specs.Levels.{has_level}
use Rattle.safe_agreement.proofs.Resolving.{some_level}

length-levels_of : (word m : ℕ) → length (levels_of word m) ≡ m
length-levels_of word m = length-map-range_with_len (λ i. level_of word i) 0 m

-- nobody before this simulator is at the level
abbrev pub IsNoneBefore : ℕ → ℕ → ℕ → Type 0
IsNoneBefore word level simulator = (i : ℕ) → i < simulator → level_of word i ≢ level

level_at : (word m i : ℕ) → i < m → get_or (levels_of word m) i 0 ≡ level_of word i
level_at word m i below = get_or-map-range_with_len (λ j. level_of word j) 0 m i i 0 below (omega arith)

place : (word m level simulator : ℕ) → simulator ≤ m → IsNoneBefore word level simulator → (simulator < m → level_of word simulator ≡ level) → position_or_len (λ one. eqb one level) (levels_of word m) ≡ simulator
place word m level simulator within none here =
    position_or_len_is (λ one. eqb one level) (levels_of word m) simulator 0 (omega (arith, length-levels_of word m))
    (λ i before. ne_eqb _ _ (λ e. none i before (sym (level_at word m i (omega arith)) ∙ e)))
    (λ below. let less : simulator < m = omega (arith, length-levels_of word m) in eq-eqb _ _ (level_at word m simulator less ∙ here less))

pub least_found : (word m level simulator : ℕ) → simulator < m → IsNoneBefore word level simulator → level_of word simulator ≡ level → position (λ one. eqb one level) (levels_of word m) ≡ Some simulator
least_found word m level simulator below none here =
    rw (place word m level simulator (omega arith) none (λ _. here), length-levels_of word m, lt-ltb simulator m below) refl

pub none_found : (word m level : ℕ) → IsNoneBefore word level m → position (λ one. eqb one level) (levels_of word m) ≡ None
none_found word m level none =
    rw (place word m level m (omega arith) none (λ below. absurd (omega arith)), length-levels_of word m, le-ltb m m (omega arith)) refl

-- ---- all simulators at a level, by one bit each

level_bits : (word i : ℕ) → level_of word i ≡ bit_at word (2 * i) + 2 * bit_at word (2 * i + 1)
level_bits word i = omega (arith, shr-shr word (2 * i) 1)

-- the lower bits of k levels
abbrev lower_bits : ℕ → ℕ
lower_bits zero = 0
lower_bits (suc k) = 1 + 4 * lower_bits k

lower_bits_next : (k at : ℕ) → bit_at (lower_bits (suc k)) (suc (suc at)) ≡ bit_at (lower_bits k) at
lower_bits_next k at =
    let rest : lower_bits (suc k) / 2 / 2 ≡ lower_bits k = omega arith in
    bit_at-suc (lower_bits (suc k)) (suc at) ∙ bit_at-suc (lower_bits (suc k) / 2) at ∙ ap (λ n. bit_at n at) rest

is_lower_bit : (k i : ℕ) → i < k → bit_at (lower_bits k) (2 * i) ≡ 1
is_lower_bit zero i below = absurd (omega arith)
is_lower_bit (suc k) zero below = omega (arith, bit_at_lowest (lower_bits (suc k)))
is_lower_bit (suc k) (suc i) below =
    let e : 2 * suc i ≡ suc (suc (2 * i)) = omega arith in
    ap (bit_at (lower_bits (suc k))) e ∙ lower_bits_next k (2 * i) ∙ is_lower_bit k i (omega arith)

lower_bits_are_even : (k at : ℕ) → bit_at (lower_bits k) at ≡ 1 → at % 2 ≡ 0
lower_bits_are_even zero at is = let none : bit_at (lower_bits 0) at ≡ 0 = bit_at-zero at in absurd (omega (arith, none, is))
lower_bits_are_even (suc k) zero is = refl
lower_bits_are_even (suc k) (suc zero) is = absurd (omega (arith, bit_at-suc (lower_bits (suc k)) 0, bit_at_lowest (lower_bits (suc k) / 2), is))
lower_bits_are_even (suc k) (suc (suc at)) is = let even = lower_bits_are_even k at (sym (lower_bits_next k at) ∙ is) in omega (arith, even)

-- the bits that are as the level's own, of the first m simulators
module _ (word lower upper mask m level : ℕ)
    (few : m ≤ 8) (small : level ≤ 3) (mask_is : mask ≡ 2 ^ (2 * m) - 1)
    (lower_is : (at : ℕ) → at < 64 → (bit_at lower at ≡ 1) ↔ (bit_at word at ≡ level % 2))
    (upper_is : (at : ℕ) → at < 64 → (bit_at upper at ≡ 1) ↔ (bit_at word at ≡ level / 2)) where
  abbrev pub all_at : ℕ
  all_at = bit_and (bit_and (bit_and lower (upper / 2)) 21845) mask

  bit_of_all : (at : ℕ) → bit_at all_at at ≡ min (min (min (bit_at lower at) (bit_at upper (suc at))) (bit_at 21845 at)) (bit_at mask at)
  bit_of_all at =
      bit_at_and (bit_and (bit_and lower (upper / 2)) 21845) mask at
      ∙ ap (λ x. min x (bit_at mask at)) (
      bit_at_and (bit_and lower (upper / 2)) 21845 at
      ∙ ap (λ x. min x (bit_at 21845 at)) (bit_at_and lower (upper / 2) at ∙ ap (min (bit_at lower at)) (sym (bit_at-suc upper at)))
      )

  pub each_of_all : (i : ℕ) → i < m → (bit_at all_at (2 * i) ≡ 1) ↔ (level_of word i ≡ level)
  each_of_all i below =
      let bits = level_bits word i in
      let all = bit_of_all (2 * i) in
      let low = lower_is (2 * i) (omega arith) in
      let up = upper_is (suc (2 * i)) (omega arith) in
      let e : bit_at word (suc (2 * i)) ≡ bit_at word (2 * i + 1) = ap (bit_at word) (omega arith) in
      let own = is_lower_bit 8 i (omega arith) in
      let inside : bit_at mask (2 * i) ≡ 1 = ap (λ n. bit_at n (2 * i)) mask_is ∙ bit_at_ones (2 * m) (2 * i) (omega arith) in
      let lower_most = bit_at-lt lower (2 * i) in
      let upper_most = bit_at-lt upper (suc (2 * i)) in (
        λ one. let a = low.0 (omega (arith, all, one, lower_most)) in let b = up.0 (omega (arith, all, one, upper_most)) in omega (arith, bits, a, b, e),
        λ is.
            let word_most = bit_at-lt word (2 * i) in
            let a = low.1 (omega (arith, bits, is, word_most)) in
            let b = up.1 (omega (arith, bits, is, e, word_most)) in
            omega (arith, all, a, b, own, inside),
      )

  pub no_other_of_all : (at : ℕ) → bit_at all_at at ≡ 1 → (at % 2 ≡ 0) × (at < 2 * m)
  no_other_of_all at one =
      let all = bit_of_all at in
      let mask_most = bit_at-lt mask at in
      let lower_most = bit_at-lt 21845 at in (
        lower_bits_are_even 8 at (omega (arith, all, one, lower_most)),
        elim (cases_lt at (2 * m)) as (λ _. at < 2 * m) [
          | inl less ↦ less
          | inr more ↦ let none : bit_at mask at ≡ 0 = ap (λ n. bit_at n at) mask_is ∙ bit_at_ones_above (2 * m) at more in absurd (omega (arith, all, one, none))
        ],
      )

-- ---- the least of them

pub record AreAllAt (word m level all : ℕ) : Type 0 where
  pub each : (i : ℕ) → i < m → (bit_at all (2 * i) ≡ 1) ↔ (level_of word i ≡ level)
  pub no_other : (at : ℕ) → bit_at all at ≡ 1 → (at % 2 ≡ 0) × (at < 2 * m)

none_before : (word m level all first : ℕ) → AreAllAt word m level all → first ≤ m → ((at : ℕ) → at < 2 * first → bit_at all at ≡ 0) → IsNoneBefore word level first
none_before word m level all first are within none i before is =
    let one = (are.each i (omega arith)).1 is in
    absurd (omega (arith, one, none (2 * i) (omega arith)))

pub none_at : (word m level all : ℕ) → AreAllAt word m level all → all ≡ 0 → position (λ one. eqb one level) (levels_of word m) ≡ None
none_at word m level all are is =
    none_found word m level (none_before word m level all m are (omega arith) (λ at _. ap (λ n. bit_at n at) is ∙ bit_at-zero at))

pub least_of : (word m level all : ℕ) → AreAllAt word m level all → 0 < all → all < 2 ^ 64 →
    (trailing_zeros w64 all / 2 < m) × (position (λ one. eqb one level) (levels_of word m) ≡ Some (trailing_zeros w64 all / 2))
least_of word m level all are some fits =
    let lowest = bit_at-trailing_zeros w64 all some fits in
    let at = trailing_zeros w64 all in
    let first = at / 2 in
    let place = are.no_other at lowest.1 in
    let even : at ≡ 2 * first = omega (arith, place.0) in
    let below : first < m = omega (arith, place.1) in
    let here = (are.each first below).0 (ap (bit_at all) (sym even) ∙ lowest.1) in
    (below, least_found word m level first below (none_before word m level all first are (omega arith) (λ k before. lowest.2 k (omega (arith, even)))) here)

pub some_at : (word m level all : ℕ) → AreAllAt word m level all → all < 2 ^ 64 → not (eqb all 0) ≡ has_level level (levels_of word m)
some_at word m level zero are fits = sym (some_level level (levels_of word m) None (none_at word m level zero are refl))
some_at word m level (suc all) are fits = ap not (ne_eqb (suc all) 0 (λ is. absurd (omega arith))) ∙ sym (some_level level (levels_of word m) (Some _) (least_of word m level (suc all) are (omega arith) fits).1)
