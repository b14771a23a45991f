-- A text is a number exactly if it is the number's decimal spelling.
use Rattle.std.proofs.Common.{rules, arith, ◌≡◌, ℕ, ◌+◌, ◌-◌, ◌*◌, ◌^◌, ◌<◌, ◌≤◌, min, Bool, true, false, cond, eqb, not, List, [], ◌∷◌, length, get_or, Option, Some, None, refl, sym, ap, ◌∙◌, inl, inr}
use Rattle.std.specs.Prelude.{◌↔◌}
use Rattle.std.specs.List.{fold, list_all}
use Rattle.std.specs.Option.{option_map}
use Rattle.std.specs.Fmt.{decimal}
use Rattle.std.proofs.lemmas.Bool.{and_parts, not-true, eqb-false, ne_eqb, cases_lt}
use Rattle.std.proofs.lemmas.Option.{cond_some}
use Rattle.std.proofs.lemmas.Str.Parse.{IsNumeralModel, numerals_by_fold}
use Rattle.std.proofs.lemmas.Fmt.{digits_decimal, digits_value-decimal, decimal-digits_value, decimal_nonempty, decimal_digit, first_decimal}
use Rattle.protocol_lang.specs.Numbers.{greatest, is_digit, value_of_digits, is_numeral, number_of}

numerals : IsNumeralModel (λ ds. list_all is_digit ds ≡ true) value_of_digits
numerals = numerals_by_fold _ (search rules) (λ n ds. fold (λ value digit. value * 10 + (digit - 48)) n ds) (search rules)

-- digits, at least one, and a leading 0 alone
record IsPlain (text : List ℕ) : Type 0 where
  digits : list_all is_digit text ≡ true
  some : 0 < length text
  leading : get_or text 0 0 ≡ 48 → length text ≡ 1

plain : (text : List ℕ) → is_numeral text ≡ true → IsPlain text
plain [] e = absurd cc
plain (digit ∷ []) e = record { digits = grind arith; some = omega arith; leading = λ _. refl }
plain (first ∷ second ∷ text) e =
    let parts = and_parts (not (eqb first 48)) (list_all is_digit (first ∷ second ∷ text)) e in
    record { digits = parts.1; some = omega arith; leading = λ zero. absurd (eqb-false first 48 (not-true _ parts.0) zero) }

numeral : (text : List ℕ) → IsPlain text → is_numeral text ≡ true
numeral [] p = absurd (omega (arith, p.some))
numeral (digit ∷ []) p = (and_parts (is_digit digit) true p.digits).0
numeral (first ∷ second ∷ text) p =
    let no_zero : first ≡ 48 → ⊥ = λ zero. omega (arith, p.leading zero) in
    rw (ne_eqb first 48 no_zero) p.digits

-- ---- numbers of 64 bits

pub number_to : (text : List ℕ) (number : ℕ) → number_of text ≡ Some number → number < 2 ^ 64 → text ≡ decimal number
number_to text number read small =
    let parts = cond_some (is_numeral text) (value_of_digits text) number read in
    let p = plain text parts.0 in
    sym (decimal-digits_value numerals text p.digits p.some p.leading (omega (arith, parts.1))) ∙ ap decimal parts.1

pub decimal_digits : (number : ℕ) → number < 2 ^ 64 → list_all is_digit (decimal number) ≡ true
decimal_digits number small = digits_decimal numerals number small

leading_alone : (number : ℕ) → number < 2 ^ 64 → get_or (decimal number) 0 0 ≡ 48 → length (decimal number) ≡ 1
leading_alone number small first =
    elim (cases_lt 0 number) [ inl more ↦ absurd (omega (arith, first_decimal number more small)) | inr none ↦ ap length (decimal_digit number (omega arith)) ]

decimal_plain : (number : ℕ) → number < 2 ^ 64 → IsPlain (decimal number)
decimal_plain number small = record {
  digits = decimal_digits number small;
  some = decimal_nonempty number small;
  leading = leading_alone number small;
}

pub number_from : (number : ℕ) → number < 2 ^ 64 → number_of (decimal number) ≡ Some number
number_from number small =
    rw (numeral (decimal number) (decimal_plain number small)) (ap Some (digits_value-decimal numerals number small))

-- ---- numbers up to the greatest

pub number_spelled : (text : List ℕ) (n : ℕ) → number_of text ≡ Some n → n ≤ greatest → text ≡ decimal n
number_spelled text n read small = number_to text n read (omega (arith, small))

pub digits_of-decimal : (n : ℕ) → n ≤ greatest → list_all is_digit (decimal n) ≡ true
digits_of-decimal n small = decimal_digits n (omega (arith, small))

pub number_of-decimal : (n : ℕ) → n ≤ greatest → number_of (decimal n) ≡ Some n
number_of-decimal n small = number_from n (omega (arith, small))

capped_is : (o : Option ℕ) (n : ℕ) → n ≤ greatest → option_map (λ m. min m (2 ^ 32)) o ≡ Some n → o ≡ Some n
capped_is None n small e = absurd cc
capped_is (Some m) n small e =
    let same : min m (2 ^ 32) ≡ n = cc in
    ap Some (omega arith)

-- a number that was read with a cap above the greatest
pub capped_spelled : (text : List ℕ) (read : Option ℕ) (n : ℕ) → read ≡ option_map (λ m. min m (2 ^ 32)) (number_of text) → n ≤ greatest → (read ≡ Some n) ↔ (text ≡ decimal n)
capped_spelled text read n value small = (
  λ there. number_spelled text n (capped_is (number_of text) n small (sym value ∙ there)) small,
  λ written. rw (value, written, number_of-decimal n small) (ap Some (omega arith)),
)
