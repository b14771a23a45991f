-- An outcome that is added, among the entries of a map.
use Rattle.std.proofs.Common.{◌≡◌, ℕ, zero, suc, ◌<◌, Bool, true, false, cond, get_or, List, [], ◌∷◌, length, Option, Some, None, refl, sym, ap, ◌∙◌, arith}
use Rattle.std.specs.Prelude.{is_some, slice_get}
use Rattle.std.specs.List.{position}
use Rattle.std.specs.Map.{keys_of, lookup, values_of}
use Rattle.std.proofs.lemmas.List.Quantifiers.{position-Some}
use Rattle.indexmap.specs.IndexMap.{insert_entry, set_value_at}
use Rattle.arrayvec.specs.declared.array_vec.ArrayVec.{ArrayVec}
use Rattle.ws_history.specs.declared.states.ProcessState.{ProcessState}
use Rattle.room_sample.specs.declared.tally.Outcome.{Outcome}
use Rattle.room_sample.specs.Parts.{added, more_at, more_times}
use Rattle.room_sample.specs.Samples.{Counted, Entry, counted_of, outcomes_in, same_states}

abbrev pub Key : Type 0
Key = ArrayVec ProcessState 16 (Unit {0})

abbrev pub is_key : Key → Key → Bool
is_key one other = same_states one.items other.items

-- ---- an outcome comes for the first time

new_by : (b : Bool) (key : Key) (outcome : Outcome) (entry : Entry) (entries : List Entry) → cond b (Some entry.1) (lookup (is_key key) entries) ≡ None
    → (lookup (is_key key) entries ≡ None → outcomes_in (insert_entry is_key entries key outcome) ≡ added (counted_of (key, outcome)) (outcomes_in entries))
    → outcomes_in (cond b ((entry.0, outcome) ∷ entries) (entry ∷ insert_entry is_key entries key outcome))
    ≡ cond b (more_times outcome.times (counted_of entry) ∷ outcomes_in entries) (counted_of entry ∷ added (counted_of (key, outcome)) (outcomes_in entries))
new_by true key outcome entry entries none later = absurd cc
new_by false key outcome entry entries none later = ap (λ (all : List Counted). counted_of entry ∷ all) (later none)

pub new_there : (key : Key) (outcome : Outcome) (entries : List Entry) → lookup (is_key key) entries ≡ None → outcomes_in (insert_entry is_key entries key outcome) ≡ added (counted_of (key, outcome)) (outcomes_in entries)
new_there key outcome [] none = refl
new_there key outcome (entry ∷ entries) none = new_by (is_key key entry.0) key outcome entry entries none (new_there key outcome entries)

pub none_found : (found : Option Outcome) → is_some found ≡ false → found ≡ None
none_found None is = refl
none_found (Some outcome) is = absurd cc

-- ---- it has come before

again_at : (key : Key) (outcome : Outcome) (entries : List Entry) (i : ℕ) → i < length (keys_of entries) → is_key key (get_or (keys_of entries) i key) ≡ true → ((k : ℕ) → k < i → is_key key (get_or (keys_of entries) k key) ≡ false)
    → more_at (outcomes_in entries) i outcome.times ≡ added (counted_of (key, outcome)) (outcomes_in entries)
again_at key outcome [] i within here before = absurd (omega (arith, within))
again_at key outcome (entry ∷ entries) zero within here before =
    sym (ap (λ (b : Bool). cond b (more_times outcome.times (counted_of entry) ∷ outcomes_in entries) (counted_of entry ∷ added (counted_of (key, outcome)) (outcomes_in entries))) here)
again_at key outcome (entry ∷ entries) (suc i) within here before =
    ap (λ (all : List Counted). counted_of entry ∷ all) (again_at key outcome entries i (omega (arith, within)) here (λ k below. before (suc k) (omega (arith, below))))
    ∙ sym (ap (λ (b : Bool). cond b (more_times outcome.times (counted_of entry) ∷ outcomes_in entries) (counted_of entry ∷ added (counted_of (key, outcome)) (outcomes_in entries))) (before 0 (omega arith)))

pub again_there : (key : Key) (outcome : Outcome) (entries : List Entry) (i : ℕ) → position (is_key key) (keys_of entries) ≡ Some i → more_at (outcomes_in entries) i outcome.times ≡ added (counted_of (key, outcome)) (outcomes_in entries)
again_there key outcome entries i found =
    let at = position-Some (is_key key) (keys_of entries) i key found in
    again_at key outcome entries i at.0 at.1 at.2

-- ---- an outcome comes more often

same_value : (a b : Outcome) → Some a ≡ Some b → a ≡ b
same_value a b is = cc

-- among the entries of a map
pub more_there : (entries : List Entry) (i : ℕ) (count : ℕ) (value changed : Outcome) → slice_get (values_of entries) i ≡ Some value → ((k : Key) → counted_of (k, changed) ≡ more_times count (counted_of (k, value)))
    → outcomes_in (set_value_at entries i changed) ≡ more_at (outcomes_in entries) i count
more_there [] i count value changed there more = absurd (let none : None ≡ Some value = there in cc)
more_there (entry ∷ entries) zero count value changed there more =
    ap (λ (one : Counted). one ∷ outcomes_in entries) (more entry.0 ∙ ap (λ (old : Outcome). more_times count (counted_of (entry.0, old))) (sym (same_value entry.1 value there)))
more_there (entry ∷ entries) (suc i) count value changed there more = ap (λ (all : List Counted). counted_of entry ∷ all) (more_there entries i count value changed there more)
