-- What a sum with a power of two leaves of the fields of a word.
use Rattle.std.proofs.Common.{◌≡◌, ℕ, ◌+◌, ◌-◌, ◌*◌, ◌/◌, ◌%◌, ◌^◌, ◌<◌, ◌≤◌, inl, inr, sym, ap, ◌∙◌, subst, arith, bit_and}
use Rattle.std.proofs.lemmas.Nat.{pow_pos, pow-add, shr-shr, shr_split, mod-pow-add, field_of as mod-shr, div-add-mod', mod_below, mod_low, shr_high, mul-le, mul-add-lt, and_mask, div-mul-add, mod-mul-add, div_below}
use Rattle.std.proofs.lemmas.Nat.Bits.{ones_shr}
use Rattle.level_cells.specs.Fields.{field_of, AreApart, KeepsOthers}

-- ---- fields above and below a bit

shr_from : (x j k : ℕ) → j ≤ k → x / 2 ^ k ≡ x / 2 ^ j / 2 ^ (k - j)
shr_from x j k le =
    let whole : j + (k - j) ≡ k = omega arith in
    sym (shr-shr x j (k - j) ∙ ap (λ e. x / 2 ^ e) whole)

mod_from : (x j k : ℕ) → j ≤ k → x % 2 ^ j ≡ x % 2 ^ k % 2 ^ j
mod_from x j k le =
    let whole : (k - j) + j ≡ k = omega arith in
    sym (ap (λ e. x % 2 ^ e % 2 ^ j) (sym whole) ∙ ap (λ y. y % 2 ^ j) (mod-pow-add x (k - j) j) ∙ mod_low (x / 2 ^ j % 2 ^ (k - j)) j (x % 2 ^ j) (mod_below x (2 ^ j) (pow_pos j)))

pub same_above : (x y at width other other_width : ℕ) → x / 2 ^ at / 2 ^ width ≡ y / 2 ^ at / 2 ^ width → at + width ≤ other → field_of x other other_width ≡ field_of y other other_width
same_above x y at width other other_width same le =
    let both : x / 2 ^ (at + width) ≡ y / 2 ^ (at + width) = sym (shr-shr x at width) ∙ same ∙ shr-shr y at width in
    ap (λ z. z % 2 ^ other_width) (shr_from x (at + width) other le ∙ ap (λ z. z / 2 ^ (other - (at + width))) both ∙ sym (shr_from y (at + width) other le))

pub same_below : (x y at other other_width : ℕ) → x % 2 ^ at ≡ y % 2 ^ at → other + other_width ≤ at → field_of x other other_width ≡ field_of y other other_width
same_below x y at other other_width same le =
    let within : other_width + other ≤ at = omega arith in
    let both : x % 2 ^ (other_width + other) ≡ y % 2 ^ (other_width + other) = mod_from x (other_width + other) at within ∙ ap (λ z. z % 2 ^ (other_width + other)) same ∙ sym (mod_from y (other_width + other) at within) in
    sym (mod-shr x other_width other) ∙ ap (λ z. z / 2 ^ other) both ∙ mod-shr y other_width other

-- a word with the same bits above and below a field has the same other fields
pub same_apart : (x y at width : ℕ) → x / 2 ^ at / 2 ^ width ≡ y / 2 ^ at / 2 ^ width → x % 2 ^ at ≡ y % 2 ^ at → KeepsOthers y x at width
same_apart x y at width above below = λ other other_width apart.
    elim apart as (λ _. field_of x other other_width ≡ field_of y other other_width) [
      | inl le ↦ same_above x y at width other other_width above le
      | inr le ↦ same_below x y at other other_width below le
    ]

-- ---- one more, and one less, in a field

next_div : (q w : ℕ) → q % w + 1 < w → (q + 1) / w ≡ q / w
next_div q w room =
    let parts : q / w * w + (q % w + 1) ≡ q + 1 = omega (arith, div-add-mod' q w) in
    ap (λ z. z / w) (sym parts) ∙ div-mul-add (q / w) w (q % w + 1) room

next_mod : (q w : ℕ) → q % w + 1 < w → (q + 1) % w ≡ q % w + 1
next_mod q w room =
    let parts : q / w * w + (q % w + 1) ≡ q + 1 = omega (arith, div-add-mod' q w) in
    ap (λ z. z % w) (sym parts) ∙ mod-mul-add (q / w) w (q % w + 1) room

previous_div : (q w : ℕ) → 0 < w → 1 ≤ q % w → (q - 1) / w ≡ q / w
previous_div q w pos some =
    let parts : q / w * w + (q % w - 1) ≡ q - 1 = omega (arith, div-add-mod' q w) in
    ap (λ z. z / w) (sym parts) ∙ div-mul-add (q / w) w (q % w - 1) (omega (arith, mod_below q w pos))

previous_mod : (q w : ℕ) → 0 < w → 1 ≤ q % w → (q - 1) % w ≡ q % w - 1
previous_mod q w pos some =
    let parts : q / w * w + (q % w - 1) ≡ q - 1 = omega (arith, div-add-mod' q w) in
    ap (λ z. z % w) (sym parts) ∙ mod-mul-add (q / w) w (q % w - 1) (omega (arith, mod_below q w pos))

-- the parts of a word with 2 ^ at added
sum_parts : (x at : ℕ) → (x / 2 ^ at + 1) * 2 ^ at + x % 2 ^ at ≡ x + 2 ^ at
sum_parts x at = grind (arith, shr_split x at)

sum_div : (x at : ℕ) → (x + 2 ^ at) / 2 ^ at ≡ x / 2 ^ at + 1
sum_div x at = ap (λ z. z / 2 ^ at) (sym (sum_parts x at)) ∙ shr_high (x / 2 ^ at + 1) at (x % 2 ^ at) (mod_below x (2 ^ at) (pow_pos at))

sum_mod : (x at : ℕ) → (x + 2 ^ at) % 2 ^ at ≡ x % 2 ^ at
sum_mod x at = ap (λ z. z % 2 ^ at) (sym (sum_parts x at)) ∙ mod_low (x / 2 ^ at + 1) at (x % 2 ^ at) (mod_below x (2 ^ at) (pow_pos at))

one_from_quotient : (x at : ℕ) → 1 ≤ x / 2 ^ at → 2 ^ at ≤ x
one_from_quotient x at some =
    let times : 1 * 2 ^ at ≤ x / 2 ^ at * 2 ^ at = mul-le 1 (2 ^ at) (x / 2 ^ at) (2 ^ at) some (omega arith) in
    omega (arith, shr_split x at, times)

pub added_field : (x at width : ℕ) → field_of x at width + 1 < 2 ^ width → field_of (x + 2 ^ at) at width ≡ field_of x at width + 1
added_field x at width room = ap (λ z. z % 2 ^ width) (sum_div x at) ∙ next_mod (x / 2 ^ at) (2 ^ width) room

pub added_others : (x at width : ℕ) → field_of x at width + 1 < 2 ^ width → KeepsOthers x (x + 2 ^ at) at width
added_others x at width room =
    same_apart (x + 2 ^ at) x at width (ap (λ z. z / 2 ^ width) (sum_div x at) ∙ next_div (x / 2 ^ at) (2 ^ width) room) (sum_mod x at)

-- a word of `bits` bits stays one
pub added_fits : (bits x at width : ℕ) → at + width ≤ bits → x < 2 ^ bits → field_of x at width + 1 < 2 ^ width → x + 2 ^ at < 2 ^ bits
added_fits bits x at width inside fits room =
    let high = bits - (at + width) in
    let powers : 2 ^ bits ≡ 2 ^ high * 2 ^ width * 2 ^ at = ap (λ e. 2 ^ e) (omega arith) ∙ pow-add 2 (high + width) at ∙ ap (λ z. z * 2 ^ at) (pow-add 2 high width) in
    let below : x < 2 ^ high * 2 ^ width * 2 ^ at = let P : ℕ → Type 0 = λ z. x < z in subst P powers fits in
    let top : x / 2 ^ at / 2 ^ width < 2 ^ high = div_below (x / 2 ^ at) (2 ^ width) (2 ^ high) (pow_pos width) (div_below x (2 ^ at) (2 ^ high * 2 ^ width) (pow_pos at) below) in
    let parts : x / 2 ^ at / 2 ^ width * 2 ^ width + (field_of x at width + 1) ≡ x / 2 ^ at + 1 = omega (arith, div-add-mod' (x / 2 ^ at) (2 ^ width)) in
    let shifted : x / 2 ^ at / 2 ^ width * 2 ^ width + (field_of x at width + 1) < 2 ^ width * 2 ^ high = mul-add-lt (x / 2 ^ at / 2 ^ width) (2 ^ width) (field_of x at width + 1) (2 ^ high) top room in
    let sum : (x / 2 ^ at + 1) * 2 ^ at + x % 2 ^ at < 2 ^ at * (2 ^ width * 2 ^ high) = mul-add-lt (x / 2 ^ at + 1) (2 ^ at) (x % 2 ^ at) (2 ^ width * 2 ^ high) (omega (arith, parts, shifted)) (mod_below x (2 ^ at) (pow_pos at)) in
    grind (arith, powers, sum, sum_parts x at)

difference_div : (x at : ℕ) → 1 ≤ x / 2 ^ at → (x - 2 ^ at) / 2 ^ at ≡ x / 2 ^ at - 1
difference_div x at some =
    let whole : 2 ^ at ≤ x = one_from_quotient x at some in
    let back : x - 2 ^ at + 2 ^ at ≡ x = omega arith in
    omega (arith, sum_div (x - 2 ^ at) at, ap (λ z. z / 2 ^ at) back)

difference_mod : (x at : ℕ) → 1 ≤ x / 2 ^ at → (x - 2 ^ at) % 2 ^ at ≡ x % 2 ^ at
difference_mod x at some =
    let whole : 2 ^ at ≤ x = one_from_quotient x at some in
    let back : x - 2 ^ at + 2 ^ at ≡ x = omega arith in
    sym (sum_mod (x - 2 ^ at) at) ∙ ap (λ z. z % 2 ^ at) back

some_above : (x at width : ℕ) → 1 ≤ field_of x at width → 1 ≤ x / 2 ^ at
some_above x at width some = omega (arith, div-add-mod' (x / 2 ^ at) (2 ^ width))

-- a word whose field isn't 0 is at least 2 ^ at
pub taken_whole : (x at width : ℕ) → 1 ≤ field_of x at width → 2 ^ at ≤ x
taken_whole x at width some = one_from_quotient x at (some_above x at width some)

pub taken_field : (x at width : ℕ) → 1 ≤ field_of x at width → field_of (x - 2 ^ at) at width ≡ field_of x at width - 1
taken_field x at width some =
    ap (λ z. z % 2 ^ width) (difference_div x at (some_above x at width some)) ∙ previous_mod (x / 2 ^ at) (2 ^ width) (pow_pos width) some

pub taken_others : (x at width : ℕ) → 1 ≤ field_of x at width → KeepsOthers x (x - 2 ^ at) at width
taken_others x at width some =
    let above = some_above x at width some in
    same_apart (x - 2 ^ at) x at width (ap (λ z. z / 2 ^ width) (difference_div x at above) ∙ previous_div (x / 2 ^ at) (2 ^ width) (pow_pos width) some) (difference_mod x at above)

-- ---- masks, and a single bit

-- the code's mask, at words of `bits` bits
pub masked : (bits word at width : ℕ) → width ≤ bits → bit_and (word / 2 ^ at) ((2 ^ bits - 1) / 2 ^ (bits - width)) ≡ field_of word at width
masked bits word at width within =
    let ones : (2 ^ bits - 1) / 2 ^ (bits - width) ≡ 2 ^ width - 1 = ones_shr bits (bits - width) (omega arith) ∙ ap (λ e. 2 ^ e - 1) (omega arith) in
    ap (λ mask. bit_and (word / 2 ^ at) mask) ones ∙ and_mask (word / 2 ^ at) width

pub field_below : (word at width : ℕ) → field_of word at width < 2 ^ width
field_below word at width = mod_below (word / 2 ^ at) (2 ^ width) (pow_pos width)

pub zero_field : (at width : ℕ) → field_of 0 at width ≡ 0
zero_field at width = omega arith

pub one_alone : (at : ℕ) → (other other_width : ℕ) → AreApart at 1 other other_width → field_of (2 ^ at) other other_width ≡ 0
one_alone at other other_width apart =
    let sum : 2 ^ at ≡ 0 + 2 ^ at = omega arith in
    ap (λ word. field_of word other other_width) sum ∙ added_others 0 at 1 (omega (arith, zero_field at 1)) other other_width apart ∙ zero_field other other_width
