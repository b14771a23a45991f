-- How many memory words a room has.
use Rattle.std.proofs.Common.{◌≡◌, ◌≢◌, ℕ, zero, suc, ◌+◌, ◌-◌, ◌*◌, ◌/◌, ◌%◌, ◌<◌, ◌≤◌, Bool, true, false, cond, ltb, sym, ap, ◌∙◌, subst, arith}
use Rattle.std.proofs.Math.Nat.{suc-mul}
use Rattle.std.proofs.lemmas.Nat.{div-add-mod', div_below, mod_below, mul-le}
use mathlib.Core.Logic.{dite}
use native.Mathlib.Decide.{ℕ_discrete}
use Rattle.room_spec.specs.Rooms.{bits_of}
use Rattle.room_spec.specs.Sizes.{Sizes, AreSizes, AreMemoryWords, fields_in_word, memory_words}

bits_by : (a b c : Bool) → (P : ℕ → Type 0) → P 1 → P 2 → P 3 → P 4 → P (cond a 1 (cond b 2 (cond c 3 4)))
bits_by true b c P one two three four = one
bits_by false true c P one two three four = two
bits_by false false true P one two three four = three
bits_by false false false P one two three four = four

pub by_bits : (rounds bits : ℕ) (P : ℕ → Type 0) → bits ≡ bits_of rounds → P 1 → P 2 → P 3 → P 4 → P bits
by_bits rounds bits P is one two three four = subst P (sym is) (bits_by (ltb rounds 2) (ltb rounds 4) (ltb rounds 8) P one two three four)

-- 85 step numbers of three digits would fit, but are those of no room
no_85 : (m n : ℕ) → m ≤ 8 → n ≤ 16 → m * n ≢ 85
no_85 m n few few' is = dite (ℕ_discrete m 5) (λ (e : m ≡ 5). omega (arith, at 5 e)) others
  where
    at : (k : ℕ) → m ≡ k → k * n ≡ 85
    at k e = ap (λ (x : ℕ). x * n) (sym e) ∙ is

    others : m ≢ 5 → ⊥
    others five = dite (ℕ_discrete m 0) (λ (e : m ≡ 0). omega (arith, at 0 e)) (λ (a : m ≢ 0).
        dite (ℕ_discrete m 1) (λ (e : m ≡ 1). omega (arith, at 1 e)) (λ (b : m ≢ 1).
        dite (ℕ_discrete m 2) (λ (e : m ≡ 2). omega (arith, at 2 e)) (λ (c : m ≢ 2).
        dite (ℕ_discrete m 3) (λ (e : m ≡ 3). omega (arith, at 3 e)) (λ (d : m ≢ 3).
        dite (ℕ_discrete m 4) (λ (e : m ≡ 4). omega (arith, at 4 e)) (λ (f : m ≢ 4).
        dite (ℕ_discrete m 6) (λ (e : m ≡ 6). omega (arith, at 6 e)) (λ (g : m ≢ 6).
        dite (ℕ_discrete m 7) (λ (e : m ≡ 7). omega (arith, at 7 e)) (λ (h : m ≢ 7).
        omega (arith, at 8 (omega arith)))))))))

-- ---- a quotient that is rounded up

one_less : (q d : ℕ) → (q - 1) * d ≡ q * d - d
one_less zero d = omega arith
one_less (suc q) d = let more = suc-mul q d in let same : (suc q - 1) * d ≡ q * d = ap (λ (k : ℕ). k * d) (omega arith) in omega (arith, more, same)

above_zero : (x q d : ℕ) → 1 ≤ x → x ≤ q * d → 1 ≤ q
above_zero x zero d some most = absurd (omega arith)
above_zero x (suc q) d some most = omega arith

module _ (x d : ℕ) (some : 1 ≤ x) (wide : 1 ≤ d) where
  parts : (x + (d - 1)) / d * d + (x + (d - 1)) % d ≡ x + (d - 1)
  parts = div-add-mod' (x + (d - 1)) d

  pub up_room : x ≤ (x + (d - 1)) / d * d
  up_room = omega (arith, parts, mod_below (x + (d - 1)) d wide)

  pub up_least : ((x + (d - 1)) / d - 1) * d < x
  up_least = omega (arith, parts, one_less ((x + (d - 1)) / d) d)

  pub up_some : 1 ≤ (x + (d - 1)) / d
  up_some = above_zero x ((x + (d - 1)) / d) d some up_room

  pub up_few : x ≤ 4 * d → (x + (d - 1)) / d ≤ 4
  up_few few = let less : (x + (d - 1)) / d < 5 = div_below (x + (d - 1)) d 5 wide (omega arith) in omega arith

-- ---- of a room

record Fit (m n bits : ℕ) : Type 0 where
  pub fields : 1 ≤ 64 / bits
  pub within : 64 / bits * bits ≤ 64
  pub four : m * n ≤ 4 * (64 / bits)

fit : (sizes : Sizes) → AreSizes sizes → Fit sizes.m sizes.n sizes.bits
fit sizes are =
    by_bits sizes.rounds sizes.bits (λ bits. sizes.m * sizes.n * bits ≤ 256 → Fit sizes.m sizes.n bits) are.width
    (λ most. record { fields = omega arith; within = omega arith; four = omega arith })
    (λ most. record { fields = omega arith; within = omega arith; four = omega arith })
    (λ most. record { fields = omega arith; within = omega arith; four = three most })
    (λ most. record { fields = omega arith; within = omega arith; four = omega arith })
    are.memory
  where
    below_85 : (x : ℕ) → x ≤ 85 → x ≢ 85 → x ≤ 84
    below_85 x most other = dite (ℕ_discrete x 85) (λ (e : x ≡ 85). absurd (other e)) (λ (n' : x ≢ 85). omega arith)

    three : sizes.m * sizes.n * 3 ≤ 256 → sizes.m * sizes.n ≤ 84
    three most = let other = no_85 sizes.m sizes.n are.m_range.1 are.n_range.1 in below_85 (sizes.m * sizes.n) (omega arith) other

pub are_memory_words : (sizes : Sizes) → AreSizes sizes → AreMemoryWords sizes
unfolding memory_words
are_memory_words sizes are =
    let fits = fit sizes are in
    let some : 1 ≤ sizes.m * sizes.n = mul-le 1 1 sizes.m sizes.n are.m_range.0 are.n_range.0 in
    record {
      room = up_room (sizes.m * sizes.n) (fields_in_word sizes) some fits.fields;
      least = up_least (sizes.m * sizes.n) (fields_in_word sizes) some fits.fields;
      some = up_some (sizes.m * sizes.n) (fields_in_word sizes) some fits.fields;
      few = up_few (sizes.m * sizes.n) (fields_in_word sizes) some fits.fields fits.four;
      fields = fits.fields;
      bits = fits.within;
    }

-- where all step numbers stand in one word there is one memory word
pub one_word : (sizes : Sizes) → AreSizes sizes → sizes.m * sizes.n * sizes.bits ≤ 64 → memory_words sizes ≡ 1
unfolding memory_words
one_word sizes are narrow =
    let fits = fit sizes are in
    let some : 1 ≤ sizes.m * sizes.n = mul-le 1 1 sizes.m sizes.n are.m_range.0 are.n_range.0 in
    let words = up_some (sizes.m * sizes.n) (fields_in_word sizes) some fits.fields in
    let most : sizes.m * sizes.n ≤ fields_in_word sizes = by_bits sizes.rounds sizes.bits (λ bits. sizes.m * sizes.n * bits ≤ 64 → sizes.m * sizes.n ≤ 64 / bits) are.width (λ h. omega arith) (λ h. omega arith) (λ h. omega arith) (λ h. omega arith) narrow in
    let less : (sizes.m * sizes.n + (fields_in_word sizes - 1)) / fields_in_word sizes < 2 = div_below (sizes.m * sizes.n + (fields_in_word sizes - 1)) (fields_in_word sizes) 2 fits.fields (omega (arith, fits.fields)) in
    omega (arith, words, less)
