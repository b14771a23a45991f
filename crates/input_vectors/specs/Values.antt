-- The values of which inputs are made, as they are said: numbers with a comma between each two.
use Rattle.std.specs.Prelude.{◌≤◌, ℕ, ◌+◌, ◌==◌, nat_eq, nat_lt, Bool, List, [], ◌∷◌, ◌++◌, length, Option, Some, None, Result, Ok, Err, codes, decimal, if◌then◌else◌}
use Rattle.std.specs.List.{IsDistinct, list_any, slice_split}
use Rattle.protocol_lang.specs.Numbers.{greatest}
use Rattle.protocol_lang.specs.Results.{◌>>=◌}
use Rattle.script_play.specs.Script.{number_within}
use Rattle.input_vectors.specs.declared.values.ValuesFault.{ValuesFault}
use Rattle.input_vectors.specs.declared.values.ValuesFault.TheVariants.{NoNumber, Repeated, TooMany}
use Rattle.input_vectors.specs.declared.values.TheConstants.{MAX_VALUES}

abbrev pub is_comma : ℕ → Bool
is_comma byte = byte == 44

-- the values before a piece and that which it says, or why it says none
abbrev pub one_more : List ℕ → Option ℕ → Result (List ℕ) ValuesFault
one_more values None = Err (NoNumber (length values + 1))
one_more values (Some value) =
    if list_any (λ other. other == value) values then Err (Repeated (length values + 1))
    else if nat_lt (length values) MAX_VALUES then Ok (values ++ value ∷ [])
    else Err TooMany

-- the values before these pieces and those which they say, or the first fault
abbrev pub values_from : List ℕ → List (List ℕ) → Result (List ℕ) ValuesFault
values_from values [] = Ok values
values_from values (piece ∷ pieces) = one_more values (number_within 0 greatest piece) >>= λ more. values_from more pieces

-- the values that a text says, or its first fault
abbrev pub values_in : List ℕ → Result (List ℕ) ValuesFault
values_in text = values_from [] (slice_split is_comma text)

-- one value or more, at most 16, and no two the same
pub record AreValues (values : List ℕ) : Type 0 where
  pub some : 1 ≤ length values
  pub few : length values ≤ MAX_VALUES
  pub distinct : IsDistinct nat_eq values

-- why a text says no values, in words
abbrev pub values_fault_text : ValuesFault → List ℕ
values_fault_text (NoNumber number) = codes "value " ++ (decimal number ++ codes " of --inputs is not a number of 0 to 4294967295")
values_fault_text (Repeated number) = codes "value " ++ (decimal number ++ codes " of --inputs is there twice")
values_fault_text TooMany = codes "--inputs has more than 16 values"
