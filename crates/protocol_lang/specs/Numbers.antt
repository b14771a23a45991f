-- Numbers, as every text of bgsim writes them: decimal digits, with no sign and no leading zero.
use Rattle.std.specs.Prelude.{ℕ, ◌+◌, ◌-◌, ◌*◌, Bool, false, not, ◌&&◌, List, [], ◌∷◌, Option, Some, None, nat_le, ◌==◌, if◌then◌else◌}
use Rattle.std.specs.List.{fold, list_all}

-- the greatest value
abbrev pub greatest : ℕ
greatest = 4294967295

abbrev pub is_digit : ℕ → Bool
is_digit byte = nat_le 48 byte && nat_le byte 57

-- what a run of digits writes
abbrev pub value_of_digits : List ℕ → ℕ
value_of_digits digits = fold (λ value digit. value * 10 + (digit - 48)) 0 digits

-- one digit, or more of which the first is not 0
abbrev pub is_numeral : List ℕ → Bool
is_numeral [] = false
is_numeral (digit ∷ []) = is_digit digit
is_numeral (first ∷ second ∷ digits) = not (first == 48) && list_all is_digit (first ∷ second ∷ digits)

-- the number that a text writes, however great, or none
abbrev pub number_of : List ℕ → Option ℕ
number_of text = if is_numeral text then Some (value_of_digits text) else None
