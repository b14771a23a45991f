-- The numbers of the line `inputs`, read one after the other.
use Rattle.std.proofs.Common.{◌≡◌, ℕ, ◌≤◌, ◌<◌, ◌^◌, min, Bool, true, false, ◌&&◌, List, [], ◌∷◌, ◌++◌, length, Option, Some, None, Result, Ok, Err, cond, refl, sym, ◌∙◌, arith}
use Rattle.std.specs.Prelude.{nat_le, codes}
use Rattle.std.specs.List.{list_all}
use Rattle.std.specs.Str.{bytes_eq}
use Rattle.std.specs.Option.{option_map}
use Rattle.std.proofs.lemmas.Bool.{lt-leb, le-leb, and_parts, and_from, and_left, and_right}
use Rattle.std.proofs.lemmas.List.{append-nil, append_assoc, length-append}
use Rattle.protocol_lang.specs.Numbers.{greatest, number_of}
use Rattle.room_spec.specs.Texts.{is_space, fields_of, pieces_of}
use Rattle.room_spec.specs.Rooms.{is_value}
use Rattle.room_spec.specs.Blocks.{with_number, numbers_of, inputs_of, are_values, up_to_values}
use Rattle.room_spec.specs.declared.fault.SpecFault.{SpecFault}
use Rattle.room_spec.specs.declared.fault.SpecFault.TheVariants.{BadLine, Inputs}

-- what comes of the values so far and of the numbers behind them
abbrev pub outcome : ℕ → Bool → List ℕ → Option (List ℕ) → Result (List ℕ) SpecFault
outcome most fits values None = Err (BadLine 3)
outcome most fits values (Some others) = cond (fits && are_values most (values ++ others)) (Ok (values ++ others)) (Err Inputs)

from_none : (most : ℕ) (numbers : Option (List ℕ)) → outcome most true [] numbers ≡ up_to_values most numbers
from_none most None = refl
from_none most (Some numbers) = refl

pub outcome_starts : (most : ℕ) (line word : List ℕ) (later : Option (List ℕ)) → fields_of line ≡ word ∷ pieces_of is_space later → bytes_eq word (codes "inputs") ≡ true → outcome most true [] (numbers_of (pieces_of is_space later)) ≡ up_to_values most (inputs_of (fields_of line))
outcome_starts most line word later cut is = from_none most (numbers_of (pieces_of is_space later)) ∙ rw (cut, is) refl

pub outcome_other_word : (most : ℕ) (line word : List ℕ) (later : Option (List ℕ)) → fields_of line ≡ word ∷ pieces_of is_space later → bytes_eq word (codes "inputs") ≡ false → Err (BadLine 3) ≡ up_to_values most (inputs_of (fields_of line))
outcome_other_word most line word later cut is = rw (cut, is) refl

pub outcome_no_number : (most : ℕ) (fits : Bool) (values field fields : List ℕ) (later : Option (List ℕ)) (whole : Result (List ℕ) SpecFault) → fields_of fields ≡ field ∷ pieces_of is_space later → number_of field ≡ None → outcome most fits values (numbers_of (fields_of fields)) ≡ whole → Err (BadLine 3) ≡ whole
outcome_no_number most fits values field fields later whole cut is so_far = rw (cut, is) at so_far

with_value : (most : ℕ) (fits : Bool) (values : List ℕ) (number : ℕ) (others : Option (List ℕ)) → outcome most fits values (with_number (Some number) others) ≡ outcome most fits (values ++ number ∷ []) others
with_value most fits values number None = refl
with_value most fits values number (Some others) = simp append_assoc

pub outcome_pushed : (most : ℕ) (fits : Bool) (values field fields : List ℕ) (number : ℕ) (later : Option (List ℕ)) (whole : Result (List ℕ) SpecFault) → fields_of fields ≡ field ∷ pieces_of is_space later → number_of field ≡ Some number → outcome most fits values (numbers_of (fields_of fields)) ≡ whole → outcome most fits (values ++ number ∷ []) (numbers_of (pieces_of is_space later)) ≡ whole
outcome_pushed most fits values field fields number later whole cut is so_far = sym (with_value most fits values number (numbers_of (pieces_of is_space later))) ∙ (rw (cut, is) at so_far)

-- ---- values that are too many or too great

too_wide : (most : ℕ) (fits : Bool) (values : List ℕ) (number : ℕ) (others : Option (List ℕ)) → ((more : List ℕ) → are_values most (values ++ number ∷ more) ≡ false) → outcome most fits values (with_number (Some number) others) ≡ outcome most false values others
too_wide most fits values number None never = refl
too_wide most fits values number (Some others) never = rw (never others, and_right fits false refl) refl

pub outcome_stopped : (most : ℕ) (fits : Bool) (values field fields : List ℕ) (number : ℕ) (later : Option (List ℕ)) (whole : Result (List ℕ) SpecFault) → fields_of fields ≡ field ∷ pieces_of is_space later → number_of field ≡ Some number → ((more : List ℕ) → are_values most (values ++ number ∷ more) ≡ false) → outcome most fits values (numbers_of (fields_of fields)) ≡ whole → outcome most false values (numbers_of (pieces_of is_space later)) ≡ whole
outcome_stopped most fits values field fields number later whole cut is never so_far = sym (too_wide most fits values number (numbers_of (pieces_of is_space later)) never) ∙ (rw (cut, is) at so_far)

pub too_many : (most : ℕ) (values : List ℕ) (number : ℕ) (more : List ℕ) → length values ≡ most → are_values most (values ++ number ∷ more) ≡ false
too_many most values number more full =
    let long : nat_le (length (values ++ number ∷ more)) most ≡ false = lt-leb (length (values ++ number ∷ more)) most (omega (arith, length-append values (number ∷ more))) in
    rw long (and_left _ (list_all is_value (values ++ number ∷ more)) (and_right _ false refl))

list_all-at : (values : List ℕ) (number : ℕ) (more : List ℕ) → is_value number ≡ false → list_all is_value (values ++ number ∷ more) ≡ false
list_all-at [] number more great = and_left (is_value number) (list_all is_value more) great
list_all-at (value ∷ values) number more great = and_right (is_value value) (list_all is_value (values ++ number ∷ more)) (list_all-at values number more great)

pub too_great : (most : ℕ) (values : List ℕ) (number : ℕ) (more : List ℕ) → greatest < number → are_values most (values ++ number ∷ more) ≡ false
too_great most values number more great = and_right _ _ (list_all-at values number more (lt-leb number greatest great))

pub values_pushed : (values : List ℕ) (number : ℕ) → list_all is_value values ≡ true → number ≤ greatest → list_all is_value (values ++ number ∷ []) ≡ true
values_pushed [] number all small = and_from (is_value number) true (le-leb number greatest small) refl
values_pushed (value ∷ values) number all small = let parts = and_parts (is_value value) (list_all is_value values) all in and_from (is_value value) (list_all is_value (values ++ number ∷ [])) parts.0 (values_pushed values number parts.1 small)

pub outcome_ends : (most : ℕ) (values : List ℕ) (whole : Result (List ℕ) SpecFault) → list_all is_value values ≡ true → 1 ≤ length values → length values ≤ most → outcome most true values (Some []) ≡ whole → whole ≡ Ok values
outcome_ends most values whole all some few so_far =
    let within : are_values most values ≡ true = and_from _ (list_all is_value values) (and_from (nat_le 1 (length values)) (nat_le (length values) most) (le-leb 1 (length values) some) (le-leb (length values) most few)) all in
    sym so_far ∙ rw (append-nil values, within) refl

-- ---- the number of a field, from what was read

pub number_from : (found : Option ℕ) (read : ℕ) → option_map (λ n. min n (2 ^ 32)) found ≡ Some read → (number : ℕ) × (found ≡ Some number) × (min number (2 ^ 32) ≡ read)
number_from None read h = absurd cc
number_from (Some number) read h = (number, refl, cc)
