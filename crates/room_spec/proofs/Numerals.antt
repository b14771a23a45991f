-- The bytes of a number: no space and no line end is a digit.
use Rattle.std.proofs.Common.{◌≡◌, ℕ, ◌^◌, ◌<◌, Bool, true, not, List, [], ◌∷◌, refl, arith}
use Rattle.std.specs.List.{list_all}
use Rattle.std.specs.Fmt.{decimal}
use Rattle.std.proofs.lemmas.Bool.{and_parts, and_from}
use Rattle.std.proofs.lemmas.Bool.Decides.{nat_tests}
use Rattle.protocol_lang.specs.Numbers.{is_digit}
use Rattle.protocol_lang.proofs.CallerLemmas.{decimal_digits}
use Rattle.room_spec.specs.Texts.{is_line_end, is_space}

pub each_passes : (p q : ℕ → Bool) (text : List ℕ) → ((byte : ℕ) → p byte ≡ true → q byte ≡ true) → list_all p text ≡ true → list_all q text ≡ true
each_passes p q [] step all = refl
each_passes p q (byte ∷ text) step all =
    let parts = and_parts (p byte) (list_all p text) all in
    and_from (q byte) (list_all q text) (step byte parts.0) (each_passes p q text step parts.1)

-- what passes at each digit passes at each byte of a number
pub decimal_passes : (q : ℕ → Bool) (number : ℕ) → number < 2 ^ 64 → ((byte : ℕ) → is_digit byte ≡ true → q byte ≡ true) → list_all q (decimal number) ≡ true
decimal_passes q number small step = each_passes is_digit q (decimal number) step (decimal_digits number small)

pub digit_no_line_end : (byte : ℕ) → is_digit byte ≡ true → not (is_line_end byte) ≡ true
digit_no_line_end byte is = grind (arith, nat_tests)

pub digit_no_space : (byte : ℕ) → is_digit byte ≡ true → not (is_space byte) ≡ true
digit_no_space byte is = grind (arith, nat_tests)
