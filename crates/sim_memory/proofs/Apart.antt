-- Fields of a word moved apart, by halves of groups.
use Rattle.std.proofs.Common.{arith, ◌≡◌, ℕ, zero, suc, ◌+◌, ◌-◌, ◌*◌, ◌/◌, ◌%◌, ◌^◌, ◌<◌, ◌≤◌, inl, inr, List, [], ◌∷◌, get_or, refl, sym, ap, ◌∙◌, subst}
use Rattle.std.specs.Prelude.{bit_and, bit_or}
use lib.Lanes.{digits_l, number_l}
use lib.Pow.{pow_mono}
use lib.Bits.{or_zero_l, or_zero_r}
use native.Mathlib.Nat.{div-eq_of_lt, div-one, mod-eq_of_lt, pow-suc}
use Rattle.std.proofs.Math.Nat.{mul-add-mod_self_right, zero-div, zero-mod}
use Rattle.std.proofs.lemmas.Simd.{get_or_narrower}
use Rattle.std.proofs.lemmas.Bool.{cases_lt}
use Rattle.std.proofs.lemmas.Nat.{and_mask, and_mod, and_shr, field_of, mod_below, mod_low, mul-le, or_mod, or_shr, pow-add, pow_pos, row_fits, shl-shr, shr_below, shr-shr, shr_high, shr_split}

-- ---- digits

mod_mod : (n j c : ℕ) → n % 2 ^ (j + c) % 2 ^ c ≡ n % 2 ^ c
mod_mod n j c =
    let split : n / 2 ^ (j + c) * 2 ^ j * 2 ^ c + n % 2 ^ (j + c) ≡ n = grind (arith, pow-add 2 j c, shr_split n (j + c)) in
    sym (mul-add-mod_self_right (n / 2 ^ (j + c) * 2 ^ j) (2 ^ c) (n % 2 ^ (j + c))) ∙ ap (λ x. x % 2 ^ c) split

lower : (n c d : ℕ) → c ≤ d → n % 2 ^ d % 2 ^ c ≡ n % 2 ^ c
lower n c d less = let e : d ≡ d - c + c = omega arith in ap (λ k. n % 2 ^ k % 2 ^ c) e ∙ mod_mod n (d - c) c

-- a part of a digit
within : (n b c d : ℕ) → b + c ≤ d → n % 2 ^ d / 2 ^ b % 2 ^ c ≡ n / 2 ^ b % 2 ^ c
within n b c d less =
    let e : d ≡ d - b + b = omega arith in
    ap (λ k. n % 2 ^ k / 2 ^ b % 2 ^ c) e ∙ ap (λ x. x % 2 ^ c) (field_of n (d - b) b) ∙ lower (n / 2 ^ b) c (d - b) (omega arith)

abbrev pub repeated : ℕ → ℕ → ℕ → ℕ
repeated zero room digit = 0
repeated (suc n) room digit = repeated n room digit * 2 ^ room + digit

digits : (n room digit q : ℕ) → q < n → digit < 2 ^ room → repeated n room digit / 2 ^ (q * room) % 2 ^ room ≡ digit
digits zero room digit q below fits = absurd (omega arith)
digits (suc n) room digit zero below fits =
    let none : 0 * room ≡ 0 = omega arith in
    ap (λ at. repeated (suc n) room digit / 2 ^ at % 2 ^ room) none ∙ ap (λ x. x % 2 ^ room) (div-one (repeated (suc n) room digit)) ∙ mod_low (repeated n room digit) room digit fits
digits (suc n) room digit (suc q) below fits =
    let e : suc q * room ≡ room + q * room = grind arith in
    ap (λ at. repeated (suc n) room digit / 2 ^ at % 2 ^ room) e
    ∙ ap (λ x. x % 2 ^ room) (sym (shr-shr (repeated (suc n) room digit) room (q * room)) ∙ ap (λ x. x / 2 ^ (q * room)) (shr_high (repeated n room digit) room digit fits))
    ∙ digits n room digit q (omega arith) fits

-- ---- one step

-- the first count fields of x, each width bits wide, begin room bits apart in y
abbrev pub AreApart : (x y width room count : ℕ) → Type 0
AreApart x y width room count = (q : ℕ) → q < count → y / 2 ^ (q * room) % 2 ^ room ≡ x / 2 ^ (q * width) % 2 ^ width

-- a digit of the masked word
digit : (y shifted mask width room q : ℕ) → width ≤ room → mask / 2 ^ (q * room) % 2 ^ room ≡ 2 ^ width - 1 →
    bit_and (bit_or y shifted) mask / 2 ^ (q * room) % 2 ^ room ≡ bit_or (y / 2 ^ (q * room) % 2 ^ width) (shifted / 2 ^ (q * room) % 2 ^ width)
digit y shifted mask width room q less is =
    let at = q * room in
    let both = bit_or (y / 2 ^ at) (shifted / 2 ^ at) in
    ap (λ x. x % 2 ^ room) (and_shr (bit_or y shifted) mask at ∙ ap (λ x. bit_and x (mask / 2 ^ at)) (or_shr y shifted at))
    ∙ and_mod both (mask / 2 ^ at) room
    ∙ ap (bit_and (both % 2 ^ room)) is
    ∙ and_mask (both % 2 ^ room) width
    ∙ lower both width room less
    ∙ or_mod (y / 2 ^ at) (shifted / 2 ^ at) width

-- the shifted word, of which a whole room is read
pub shifted_at : (y s at width : ℕ) → at + width ≤ 64 → y * 2 ^ s % 2 ^ 64 / 2 ^ at % 2 ^ width ≡ y * 2 ^ s / 2 ^ at % 2 ^ width
shifted_at y s at width inside = within (y * 2 ^ s) at width 64 inside

pub shift_back : (y s at : ℕ) → s ≤ at → y * 2 ^ s / 2 ^ at ≡ y / 2 ^ (at - s)
shift_back y s at less =
    let e : at ≡ s + (at - s) = omega arith in
    ap (λ k. y * 2 ^ s / 2 ^ k) e ∙ sym (shr-shr (y * 2 ^ s) s (at - s)) ∙ ap (λ x. x / 2 ^ (at - s)) (shl-shr y s)

nothing_above : (n k j c : ℕ) → n < 2 ^ k → k ≤ j → n / 2 ^ j % 2 ^ c ≡ 0
nothing_above n k j c less more =
    let e : j ≡ k + (j - k) = omega arith in
    let none : n / 2 ^ k ≡ 0 = div-eq_of_lt less in
    ap (λ i. n / 2 ^ i % 2 ^ c) e ∙ ap (λ x. x % 2 ^ c) (sym (shr-shr n k (j - k)) ∙ ap (λ x. x / 2 ^ (j - k)) none) ∙ nothing
  where
    nothing : 0 / 2 ^ (j - k) % 2 ^ c ≡ 0
    nothing = omega arith

-- no half comes down from the room below
spill : (x y width room count j : ℕ) → 2 * width ≤ room → AreApart x y (2 * width) (2 * room) count → j < count → 2 * j * room + width ≤ 64 →
    y * 2 ^ (room - width) % 2 ^ 64 / 2 ^ (2 * j * room) % 2 ^ width ≡ 0
spill x y width room count zero wide apart below inside =
    let none : 2 * 0 * room ≡ 0 = omega arith in
    let up : room - width ≡ (room - width - width) + width = omega arith in
    let whole : y * 2 ^ (room - width) ≡ y * 2 ^ (room - width - width) * 2 ^ width + 0 = ap (λ k. y * 2 ^ k) up ∙ grind (arith, pow-add 2 (room - width - width) width) in
    shifted_at y (room - width) (2 * 0 * room) width inside
    ∙ ap (λ at. y * 2 ^ (room - width) / 2 ^ at % 2 ^ width) none
    ∙ ap (λ x. x % 2 ^ width) (div-one (y * 2 ^ (room - width)) ∙ whole)
    ∙ mod_low (y * 2 ^ (room - width - width)) width 0 (pow_pos width)
spill x y width room count (suc j) wide apart below inside =
    let at : 2 * suc j * room ≡ j * (2 * room) + 2 * room = grind arith in
    let back : 2 * suc j * room - (room - width) ≡ j * (2 * room) + (room + width) = omega (arith, at) in
    let group = x / 2 ^ (j * (2 * width)) % 2 ^ (2 * width) in
    shifted_at y (room - width) (2 * suc j * room) width inside
    ∙ ap (λ x. x % 2 ^ width) (shift_back y (room - width) (2 * suc j * room) (omega (arith, at)) ∙ ap (λ k. y / 2 ^ k) back ∙ sym (shr-shr y (j * (2 * room)) (room + width)))
    ∙ sym (within (y / 2 ^ (j * (2 * room))) (room + width) width (2 * room) (omega arith))
    ∙ ap (λ x. x / 2 ^ (room + width) % 2 ^ width) (apart j (omega arith))
    ∙ nothing_above group (2 * width) (room + width) width (mod_below _ _ (pow_pos (2 * width))) (omega arith)

even_half : (x y mask width room count j : ℕ) → 2 * width ≤ room → AreApart x y (2 * width) (2 * room) count → j < count → 2 * j * room + width ≤ 64 →
    mask / 2 ^ (2 * j * room) % 2 ^ room ≡ 2 ^ width - 1 →
    bit_and (bit_or y (y * 2 ^ (room - width) % 2 ^ 64)) mask / 2 ^ (2 * j * room) % 2 ^ room ≡ x / 2 ^ (2 * j * width) % 2 ^ width
even_half x y mask width room count j wide apart below inside is =
    let at : 2 * j * room ≡ j * (2 * room) = grind arith in
    let from : j * (2 * width) ≡ 2 * j * width = grind arith in
    let own : y / 2 ^ (2 * j * room) % 2 ^ width ≡ x / 2 ^ (2 * j * width) % 2 ^ width =
    ap (λ k. y / 2 ^ k % 2 ^ width) at
    ∙ sym (lower (y / 2 ^ (j * (2 * room))) width (2 * room) (omega arith))
    ∙ ap (λ x. x % 2 ^ width) (apart j below)
    ∙ lower (x / 2 ^ (j * (2 * width))) width (2 * width) (omega arith)
    ∙ ap (λ k. x / 2 ^ k % 2 ^ width) from in
    digit y _ mask width room (2 * j) (omega arith) is
    ∙ ap (bit_or (y / 2 ^ (2 * j * room) % 2 ^ width)) (spill x y width room count j wide apart below inside)
    ∙ or_zero_r _
    ∙ own

odd_half : (x y mask width room count j : ℕ) → 2 * width ≤ room → AreApart x y (2 * width) (2 * room) count → j < count → (2 * j + 1) * room + width ≤ 64 →
    mask / 2 ^ ((2 * j + 1) * room) % 2 ^ room ≡ 2 ^ width - 1 →
    bit_and (bit_or y (y * 2 ^ (room - width) % 2 ^ 64)) mask / 2 ^ ((2 * j + 1) * room) % 2 ^ room ≡ x / 2 ^ ((2 * j + 1) * width) % 2 ^ width
odd_half x y mask width room count j wide apart below inside is =
    let at : (2 * j + 1) * room ≡ j * (2 * room) + room = grind arith in
    let back : (2 * j + 1) * room - (room - width) ≡ j * (2 * room) + width = omega (arith, at) in
    let from : j * (2 * width) + width ≡ (2 * j + 1) * width = grind arith in
    let group = x / 2 ^ (j * (2 * width)) % 2 ^ (2 * width) in
    let own : y / 2 ^ ((2 * j + 1) * room) % 2 ^ width ≡ 0 =
    ap (λ k. y / 2 ^ k % 2 ^ width) at
    ∙ ap (λ x. x % 2 ^ width) (sym (shr-shr y (j * (2 * room)) room))
    ∙ sym (within (y / 2 ^ (j * (2 * room))) room width (2 * room) (omega arith))
    ∙ ap (λ x. x / 2 ^ room % 2 ^ width) (apart j below)
    ∙ nothing_above group (2 * width) room width (mod_below _ _ (pow_pos (2 * width))) wide in
    let moved : y * 2 ^ (room - width) % 2 ^ 64 / 2 ^ ((2 * j + 1) * room) % 2 ^ width ≡ x / 2 ^ ((2 * j + 1) * width) % 2 ^ width =
    shifted_at y (room - width) ((2 * j + 1) * room) width inside
    ∙ ap (λ x. x % 2 ^ width) (shift_back y (room - width) ((2 * j + 1) * room) (omega (arith, at)) ∙ ap (λ k. y / 2 ^ k) back ∙ sym (shr-shr y (j * (2 * room)) width))
    ∙ sym (within (y / 2 ^ (j * (2 * room))) width width (2 * room) (omega arith))
    ∙ ap (λ x. x / 2 ^ width % 2 ^ width) (apart j below)
    ∙ within (x / 2 ^ (j * (2 * width))) width width (2 * width) (omega arith)
    ∙ ap (λ x. x % 2 ^ width) (shr-shr x (j * (2 * width)) width)
    ∙ ap (λ k. x / 2 ^ k % 2 ^ width) from in
    digit y _ mask width room (2 * j + 1) (omega arith) is
    ∙ ap (λ a. bit_or a (y * 2 ^ (room - width) % 2 ^ 64 / 2 ^ ((2 * j + 1) * room) % 2 ^ width)) own
    ∙ or_zero_l _
    ∙ moved

-- each group of y has its halves apart
pub halves_apart : (x y width room count : ℕ) → 2 * width ≤ room → 2 * count * room ≤ 64 → AreApart x y (2 * width) (2 * room) count →
    AreApart x (bit_and (bit_or y (y * 2 ^ (room - width) % 2 ^ 64)) (repeated (2 * count) room (2 ^ width - 1))) width room (2 * count)
halves_apart x y width room count wide most apart q below =
    let mask = repeated (2 * count) room (2 ^ width - 1) in
    let z = bit_and (bit_or y (y * 2 ^ (room - width) % 2 ^ 64)) mask in
    let j = q / 2 in
    let inside : q * room + room ≤ 64 = grind (arith, row_fits q room (2 * count) room) in
    let is = digits (2 * count) room (2 ^ width - 1) q below (omega (arith, pow_mono {i = width} {j = room} (omega arith), pow_pos width)) in
    let P : ℕ → Type 0 = λ q. q * room + room ≤ 64 → mask / 2 ^ (q * room) % 2 ^ room ≡ 2 ^ width - 1 → z / 2 ^ (q * room) % 2 ^ room ≡ x / 2 ^ (q * width) % 2 ^ width in
    elim (cases_lt (q % 2) 1) as (λ _. P q) [
      | inl even ↦ let e : 2 * j ≡ q = omega arith in subst P e (λ fits same. even_half x y mask width room count j wide apart (omega arith) (omega arith) same)
      | inr odd ↦ let e : 2 * j + 1 ≡ q = omega arith in subst P e (λ fits same. odd_half x y mask width room count j wide apart (omega arith) (omega arith) same)
    ] inside is

whole : (word bits : ℕ) → word < 2 ^ (8 * bits) → bits ≤ 4 → AreApart word word (2 * (4 * bits)) (2 * 32) 1
whole word bits fits few zero below =
    let e : 2 * (4 * bits) ≡ 8 * bits = omega arith in
    let none : 0 * (2 * (4 * bits)) ≡ 0 = omega arith in
    let most : word < 2 ^ 64 = omega (arith, pow_mono {i = 8 * bits} {j = 64} (omega arith)) in
    let left : word / 2 ^ (0 * (2 * 32)) % 2 ^ (2 * 32) ≡ word = omega arith in
    let right : word / 2 ^ (0 * (2 * (4 * bits))) % 2 ^ (2 * (4 * bits)) ≡ word =
    ap (λ at. word / 2 ^ at % 2 ^ (2 * (4 * bits))) none ∙ ap (λ x. x % 2 ^ (2 * (4 * bits))) (div-one word) ∙ ap (λ k. word % 2 ^ k) e ∙ mod-eq_of_lt fits in
    left ∙ sym right
whole word bits fits few (suc q) below = absurd (omega arith)

-- eight fields of a word, in three steps
module _ (word bits fours pairs bytes : ℕ)
    (few : bits ≤ 4)
    (fits : word < 2 ^ (8 * bits))
    (fours_is : fours ≡ bit_and (bit_or word (word * 2 ^ (32 - 4 * bits) % 2 ^ 64)) (4294967297 * (2 ^ (4 * bits) - 1)))
    (pairs_is : pairs ≡ bit_and (bit_or fours (fours * 2 ^ (16 - 2 * bits) % 2 ^ 64)) (281479271743489 * (2 ^ (2 * bits) - 1)))
    (bytes_is : bytes ≡ bit_and (bit_or pairs (pairs * 2 ^ (8 - bits) % 2 ^ 64)) (72340172838076673 * (2 ^ bits - 1))) where
  in_two : AreApart word fours (4 * bits) 32 2
  in_two =
      let mask : repeated 2 32 (2 ^ (4 * bits) - 1) ≡ 4294967297 * (2 ^ (4 * bits) - 1) = omega arith in
      subst (λ y. AreApart word y (4 * bits) 32 2) (ap (bit_and (bit_or word (word * 2 ^ (32 - 4 * bits) % 2 ^ 64))) mask ∙ sym fours_is)
      (halves_apart word word (4 * bits) 32 1 (omega arith) (omega arith) (whole word bits fits few))

  in_four : AreApart word pairs (2 * bits) 16 4
  in_four =
      let e : 4 * bits ≡ 2 * (2 * bits) = omega arith in
      let mask : repeated 4 16 (2 ^ (2 * bits) - 1) ≡ 281479271743489 * (2 ^ (2 * bits) - 1) = omega arith in
      subst (λ y. AreApart word y (2 * bits) 16 4) (ap (bit_and (bit_or fours (fours * 2 ^ (16 - 2 * bits) % 2 ^ 64))) mask ∙ sym pairs_is)
      (halves_apart word fours (2 * bits) 16 2 (omega arith) (omega arith) (subst (λ w. AreApart word fours w 32 2) e in_two))

  pub in_eight : AreApart word bytes bits 8 8
  in_eight =
      let mask : repeated 8 8 (2 ^ bits - 1) ≡ 72340172838076673 * (2 ^ bits - 1) = omega arith in
      subst (λ y. AreApart word y bits 8 8) (ap (bit_and (bit_or pairs (pairs * 2 ^ (8 - bits) % 2 ^ 64))) mask ∙ sym bytes_is)
      (halves_apart word pairs bits 8 4 (omega arith) (omega arith) in_four)

pub no_bits : (at width : ℕ) → 0 / 2 ^ at % 2 ^ width ≡ 0
no_bits at width = ap (λ x. x % 2 ^ width) (zero-div (2 ^ at)) ∙ zero-mod (2 ^ width)

-- ---- sixteen fields, in the bytes of two words

byte_pow : (i : ℕ) → 256 ^ i ≡ 2 ^ (i * 8)
byte_pow zero = refl
byte_pow (suc i) =
    let e : suc i * 8 ≡ i * 8 + 8 = omega arith in
    omega (arith, pow-suc 256 i, byte_pow i, ap (λ k. 2 ^ k) e, pow-add 2 (i * 8) 8)

byte_at : (low high j i : ℕ) → low < 2 ^ 64 → high < 2 ^ 64 → j < 2 → i < 8 → get_or (digits_l 256 16 (number_l (2 ^ 64) (low ∷ high ∷ []))) (8 * j + i) 0 ≡ get_or (low ∷ high ∷ []) j 0 / 2 ^ (i * 8) % 2 ^ 8
byte_at low high j i low_fits high_fits two eight =
    get_or_narrower (2 ^ 64) 8 256 16 (low ∷ high ∷ []) j i refl (low_fits, (high_fits, _)) eight (omega arith)
    ∙ ap (λ x. get_or (low ∷ high ∷ []) j 0 / x % 256) (byte_pow i)

pub low_byte : (low high i : ℕ) → low < 2 ^ 64 → high < 2 ^ 64 → i < 8 → get_or (digits_l 256 16 (number_l (2 ^ 64) (low ∷ high ∷ []))) i 0 ≡ low / 2 ^ (i * 8) % 2 ^ 8
low_byte low high i low_fits high_fits eight =
    let e : i ≡ 8 * 0 + i = omega arith in
    ap (λ k. get_or (digits_l 256 16 (number_l (2 ^ 64) (low ∷ high ∷ []))) k 0) e ∙ byte_at low high 0 i low_fits high_fits (omega arith) eight

pub high_byte : (low high i : ℕ) → low < 2 ^ 64 → high < 2 ^ 64 → i < 8 → get_or (digits_l 256 16 (number_l (2 ^ 64) (low ∷ high ∷ []))) (8 + i) 0 ≡ high / 2 ^ (i * 8) % 2 ^ 8
high_byte low high i low_fits high_fits eight = byte_at low high 1 i low_fits high_fits (omega arith) eight

module _ (own bits : ℕ) (bytes : List ℕ)
    (low_is : (q : ℕ) → q < 8 → get_or bytes q 0 ≡ own % 2 ^ (8 * bits) / 2 ^ (q * bits) % 2 ^ bits)
    (high_is : (q : ℕ) → q < 8 → get_or bytes (8 + q) 0 ≡ own / 2 ^ (8 * bits) / 2 ^ (q * bits) % 2 ^ bits) where
  pub in_sixteen : (p : ℕ) → p < 16 → get_or bytes p 0 ≡ own / 2 ^ (p * bits) % 2 ^ bits
  in_sixteen p below =
      let P : ℕ → Type 0 = λ p. get_or bytes p 0 ≡ own / 2 ^ (p * bits) % 2 ^ bits in
      elim (cases_lt p 8) as (λ _. P p) [
        | inl less ↦ low_is p less ∙ within own (p * bits) bits (8 * bits) (grind (arith, row_fits p bits 8 bits))
        | inr more ↦
            let q = p - 8 in
            let e : 8 + q ≡ p = omega arith in
            let at : 8 * bits + q * bits ≡ (8 + q) * bits = grind arith in
            subst P e (high_is q (omega arith) ∙ ap (λ x. x % 2 ^ bits) (shr-shr own (8 * bits) (q * bits)) ∙ ap (λ k. own / 2 ^ k % 2 ^ bits) at)
      ]

-- the lowest n fields alone
pub own_field : (word bits n p : ℕ) → p < n → word % 2 ^ (n * bits) / 2 ^ (p * bits) % 2 ^ bits ≡ word / 2 ^ (p * bits) % 2 ^ bits
own_field word bits n p below = within word (p * bits) bits (n * bits) (grind (arith, row_fits p bits n bits))

pub no_field : (word bits n p : ℕ) → n ≤ p → word % 2 ^ (n * bits) / 2 ^ (p * bits) % 2 ^ bits ≡ 0
no_field word bits n p more = nothing_above (word % 2 ^ (n * bits)) (n * bits) (p * bits) bits (mod_below _ _ (pow_pos (n * bits))) (mul-le n bits p bits more (omega arith))

pub upper_fits : (own bits n : ℕ) → n ≤ 16 → own < 2 ^ (n * bits) → own / 2 ^ (8 * bits) < 2 ^ (8 * bits)
upper_fits own bits n few fits = shr_below own (8 * bits) (8 * bits) (omega (arith, pow_mono {i = n * bits} {j = 8 * bits + 8 * bits} (omega (arith, mul-le n bits 16 bits few (omega arith)))))
