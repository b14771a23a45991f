-- Fields that begin in one word and go on in the next.
use Rattle.std.proofs.Common.{◌≡◌, ℕ, ◌+◌, ◌-◌, ◌*◌, ◌/◌, ◌%◌, ◌^◌, ◌<◌, ◌≤◌, sym, ap, ◌∙◌, arith}
use Rattle.std.specs.Prelude.{bit_or}
use lib.Bits.{or_zero_l, or_zero_r}
use Rattle.std.proofs.Math.Nat.{add-mul}
use Rattle.std.proofs.lemmas.Nat.{mod_low, or_mod, or_shr, pow-add, pow_pos, mul-le, shl-shr, shr-shr}
use Rattle.sim_memory.proofs.Apart.{no_field, own_field, shift_back, shifted_at}

-- a field of the word from its field `first` on
pub own_in_one : (word first bits p : ℕ) → word / 2 ^ (first * bits) / 2 ^ (p * bits) % 2 ^ bits ≡ word / 2 ^ ((first + p) * bits) % 2 ^ bits
own_in_one word first bits p =
    let at : first * bits + p * bits ≡ (first + p) * bits = sym (add-mul first p bits) in
    ap (λ x. x % 2 ^ bits) (shr-shr word (first * bits) (p * bits)) ∙ ap (λ k. word / 2 ^ k % 2 ^ bits) at

regroup : (w a b c : ℕ) → w * (a * b * c) ≡ (w * a * b + 0) * c
regroup w a b c = grind arith

-- a word shifted up by whole fields has no lower field
no_lower_field : (word here bits p : ℕ) → p < here → p * bits + bits ≤ 64 → word * 2 ^ (here * bits) % 2 ^ 64 / 2 ^ (p * bits) % 2 ^ bits ≡ 0
no_lower_field word here bits p below inside =
    let more = here - p - 1 in
    let up : here * bits ≡ more * bits + bits + p * bits = let e : here ≡ more + 1 + p = omega arith in ap (λ k. k * bits) e ∙ grind arith in
    let parts : 2 ^ (more * bits + bits + p * bits) ≡ 2 ^ (more * bits) * 2 ^ bits * 2 ^ (p * bits) = pow-add 2 (more * bits + bits) (p * bits) ∙ ap (λ x. x * 2 ^ (p * bits)) (pow-add 2 (more * bits) bits) in
    let whole : word * 2 ^ (here * bits) ≡ (word * 2 ^ (more * bits) * 2 ^ bits + 0) * 2 ^ (p * bits) =
    ap (λ k. word * 2 ^ k) up ∙ ap (λ x. word * x) parts ∙ regroup word (2 ^ (more * bits)) (2 ^ bits) (2 ^ (p * bits)) in
    shifted_at word (here * bits) (p * bits) bits inside
    ∙ ap (λ x. x / 2 ^ (p * bits) % 2 ^ bits) whole
    ∙ ap (λ x. x % 2 ^ bits) (shl-shr (word * 2 ^ (more * bits) * 2 ^ bits + 0) (p * bits))
    ∙ mod_low (word * 2 ^ (more * bits)) bits 0 (pow_pos bits)

-- the low word has `here` fields, and the shifted one those after them
module _ (low high own here bits : ℕ) (own_is : own ≡ low % 2 ^ (here * bits)) where
  parts : (p : ℕ) → bit_or own (high * 2 ^ (here * bits) % 2 ^ 64) / 2 ^ (p * bits) % 2 ^ bits
      ≡ bit_or (low % 2 ^ (here * bits) / 2 ^ (p * bits) % 2 ^ bits) (high * 2 ^ (here * bits) % 2 ^ 64 / 2 ^ (p * bits) % 2 ^ bits)
  parts p =
      ap (λ x. bit_or x (high * 2 ^ (here * bits) % 2 ^ 64) / 2 ^ (p * bits) % 2 ^ bits) own_is
      ∙ ap (λ x. x % 2 ^ bits) (or_shr (low % 2 ^ (here * bits)) (high * 2 ^ (here * bits) % 2 ^ 64) (p * bits))
      ∙ or_mod (low % 2 ^ (here * bits) / 2 ^ (p * bits)) (high * 2 ^ (here * bits) % 2 ^ 64 / 2 ^ (p * bits)) bits

  pub lower_field : (p : ℕ) → p < here → p * bits + bits ≤ 64 → bit_or own (high * 2 ^ (here * bits) % 2 ^ 64) / 2 ^ (p * bits) % 2 ^ bits ≡ low / 2 ^ (p * bits) % 2 ^ bits
  lower_field p below inside =
      parts p
      ∙ ap (bit_or (low % 2 ^ (here * bits) / 2 ^ (p * bits) % 2 ^ bits)) (no_lower_field high here bits p below inside)
      ∙ or_zero_r _
      ∙ own_field low bits here p below

  pub upper_field : (p : ℕ) → here ≤ p → p * bits + bits ≤ 64 → bit_or own (high * 2 ^ (here * bits) % 2 ^ 64) / 2 ^ (p * bits) % 2 ^ bits ≡ high / 2 ^ ((p - here) * bits) % 2 ^ bits
  upper_field p after inside =
      let back : p * bits - here * bits ≡ (p - here) * bits = let e : p ≡ here + (p - here) = omega arith in omega (arith, ap (λ k. k * bits) e ∙ add-mul here (p - here) bits) in
      parts p
      ∙ ap (λ x. bit_or x (high * 2 ^ (here * bits) % 2 ^ 64 / 2 ^ (p * bits) % 2 ^ bits)) (no_field low bits here p after)
      ∙ or_zero_l _
      ∙ shifted_at high (here * bits) (p * bits) bits inside
      ∙ ap (λ x. x % 2 ^ bits) (shift_back high (here * bits) (p * bits) (omega (arith, mul-le here bits p bits after (omega arith))) ∙ ap (λ k. high / 2 ^ k) back)
