-- Values, read piece by piece.
use Rattle.std.proofs.Common.{◌≡◌, ℕ, ◌+◌, ◌≤◌, Bool, true, false, ◌||◌, List, [], ◌∷◌, ◌++◌, length, Option, Some, None, Result, Ok, Err, refl, sym, subst, arith, inl, inr}
use Rattle.std.specs.Prelude.{nat_eq, nat_lt}
use Rattle.std.specs.List.{AllByRecursion, IsDistinct, list_any, slice_split}
use Rattle.std.proofs.lemmas.Bool.{cases_Bool, ltb-true}
use Rattle.std.proofs.lemmas.List.Splits.{length-slice_split}
use Rattle.std.proofs.lemmas.List.{length-append}
use Rattle.std.proofs.lemmas.Map.Keys.{IsDistinct-cons, IsDistinct-head, IsDistinct-tail}
use Rattle.protocol_lang.specs.Numbers.{greatest}
use Rattle.room_spec.specs.Texts.{pieces_of}
use Rattle.script_play.specs.Script.{number_within}
use Rattle.protocol_lang.specs.Results.{◌>>=◌}
use Rattle.input_vectors.specs.declared.values.ValuesFault.{ValuesFault}
use Rattle.input_vectors.specs.declared.values.ValuesFault.TheVariants.{Repeated, TooMany}
use Rattle.input_vectors.specs.Values.{AreValues, is_comma, one_more, values_from, values_in}

-- ---- the next piece

pub value_taken : (values piece text : List ℕ) (value : ℕ) (later : Option (List ℕ)) (whole : Result (List ℕ) ValuesFault) → slice_split is_comma text ≡ piece ∷ pieces_of is_comma later → one_more values (number_within 0 greatest piece) ≡ Ok (values ++ value ∷ [])
    → values_from values (slice_split is_comma text) ≡ whole → values_from (values ++ value ∷ []) (pieces_of is_comma later) ≡ whole
value_taken values piece text value later whole cut is so_far = rw (cut, is) at so_far

pub value_refused : (values piece text : List ℕ) (fault : ValuesFault) (later : Option (List ℕ)) (whole : Result (List ℕ) ValuesFault) → slice_split is_comma text ≡ piece ∷ pieces_of is_comma later → one_more values (number_within 0 greatest piece) ≡ Err fault
    → values_from values (slice_split is_comma text) ≡ whole → whole ≡ Err fault
value_refused values piece text fault later whole cut is so_far = sym (rw (cut, is) at so_far)

-- ---- what is read

apart_from : (first : ℕ) (values : List ℕ) (value : ℕ) → AllByRecursion (λ other. nat_eq first other ≡ false) values → nat_eq first value ≡ false → AllByRecursion (λ other. nat_eq first other ≡ false) (values ++ value ∷ [])
apart_from first [] value apart new = (new, tt)
apart_from first (other ∷ values) value apart new = (apart.0, apart_from first values value apart.1 new)

or_parts : (a b : Bool) → (a || b) ≡ false → (a ≡ false) × (b ≡ false)
or_parts false b is = (refl, is)
or_parts true b is = absurd cc

distinct_more : (values : List ℕ) (value : ℕ) → IsDistinct nat_eq values → list_any (λ other. nat_eq other value) values ≡ false → IsDistinct nat_eq (values ++ value ∷ [])
distinct_more [] value apart new = IsDistinct-cons nat_eq value [] tt apart
distinct_more (first ∷ values) value apart new =
    let parts = or_parts (nat_eq first value) (list_any (λ other. nat_eq other value) values) new in
    IsDistinct-cons nat_eq first (values ++ value ∷ []) (apart_from first values value (IsDistinct-head nat_eq first values apart) parts.0) (distinct_more values value (IsDistinct-tail nat_eq first values apart) parts.1)

abbrev taken_as : List ℕ → Result (List ℕ) ValuesFault
taken_as values = Ok values

-- one value more is within the limit, and is none of those before
taken_well : (values more : List ℕ) (found : Option ℕ) → IsDistinct nat_eq values → one_more values found ≡ Ok more → IsDistinct nat_eq more × (length more ≤ 16) × (length more ≡ length values + 1)
taken_well values more None apart is = absurd cc
taken_well values more (Some value) apart is = elim (cases_Bool (list_any (λ other. nat_eq other value) values)) [
  | inl there ↦ let never : Err (Repeated (length values + 1)) ≡ Ok more = rw there at is in absurd cc
  | inr new ↦ elim (cases_Bool (nat_lt (length values) 16)) [
    | inl few ↦
        let same : taken_as (values ++ value ∷ []) ≡ taken_as more = rw (new, few) at is in
        let are : values ++ value ∷ [] ≡ more = cc in
        let long : length (values ++ value ∷ []) ≡ length values + 1 = length-append values (value ∷ []) in
        let below = ltb-true (length values) 16 few in
        (subst (IsDistinct nat_eq) are (distinct_more values value apart new), subst (λ (l : List ℕ). length l ≤ 16) are (omega (arith, long, below)), subst (λ (l : List ℕ). length l ≡ length values + 1) are long)
    | inr many ↦ let never : Err TooMany ≡ Ok more = rw (new, many) at is in absurd cc
  ]
]

elim_taken : (taken : Result (List ℕ) ValuesFault) (before piece : List ℕ) (pieces : List (List ℕ)) (values : List ℕ) → IsDistinct nat_eq before → one_more before (number_within 0 greatest piece) ≡ taken → (taken >>= λ more. values_from more pieces) ≡ Ok values
    → ((more : List ℕ) → IsDistinct nat_eq more → length more ≤ 16 → values_from more pieces ≡ Ok values → IsDistinct nat_eq values × (length values ≤ 16) × (length values ≡ length more + length pieces))
    → IsDistinct nat_eq values × (length values ≤ 16) × (length values ≡ length before + length (piece ∷ pieces))
elim_taken (Ok more) before piece pieces values apart one rest others =
    let well = taken_well before more (number_within 0 greatest piece) apart one in
    let next = others more well.0 well.1 rest in
    (next.0, next.1, omega (arith, next.2, well.2))
elim_taken (Err fault) before piece pieces values apart one rest others = absurd cc

all_well : (before : List ℕ) (pieces : List (List ℕ)) (values : List ℕ) → IsDistinct nat_eq before → length before ≤ 16 → values_from before pieces ≡ Ok values → IsDistinct nat_eq values × (length values ≤ 16) × (length values ≡ length before + length pieces)
all_well before [] values apart few is =
    let are : before ≡ values = cc in
    (subst (IsDistinct nat_eq) are apart, subst (λ (l : List ℕ). length l ≤ 16) are few, subst (λ (l : List ℕ). length l ≡ length before + 0) are (omega arith))
all_well before (piece ∷ pieces) values apart few is = elim_taken (one_more before (number_within 0 greatest piece)) before piece pieces values apart refl is (λ more. all_well more pieces values)

-- what is read is 1 to 16 values, no two the same
pub values_are : (text values : List ℕ) → values_in text ≡ Ok values → AreValues values
unfolding IsDistinct
values_are text values is =
    let well = all_well [] (slice_split is_comma text) values tt (omega arith) is in
    let pieces = length-slice_split is_comma text in
    record { some = omega (arith, well.2, pieces); few = well.1; distinct = well.0 }
