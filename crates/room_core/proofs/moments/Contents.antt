-- Values that are due, and the entries that a simulator gathers of a snapshot.
use Rattle.std.proofs.Common.{◌≡◌, ◌≢◌, ℕ, zero, suc, ◌+◌, ◌<◌, ◌≤◌, Bool, true, false, cond, not, eqb, leb, min, List, [], ◌∷◌, ◌++◌, length, get_or, take, map, position, Option, Some, None, refl, sym, ap, ◌∙◌, subst, arith}
use Rattle.std.specs.List.{range_with_len, position_or_len}
use Rattle.std.proofs.lemmas.Bool.{eqb-true, eqb-false, ne_eqb, leb-true, le-leb, not-true}
use Rattle.std.proofs.lemmas.List.{ext_get_or, take_more, length-append}
use Rattle.std.proofs.lemmas.List.FromFn.{length-map-range_with_len, get_or-map-range_with_len}
use Rattle.std.proofs.lemmas.List.Sums.{prefix_len_passes}
use Rattle.std.proofs.lemmas.List.Quantifiers.{position-Some}
use Rattle.protocol_lang.specs.Numbers.{greatest}
use Rattle.protocol_lang.specs.declared.meaning.Action.{Action}
use Rattle.protocol_lang.specs.declared.meaning.Action.TheVariants as actions
use Rattle.room_spec.specs.Rooms.{RoomSpec, processes}
use Rattle.safe_agreement.proofs.CallerLemmas.{none_within}
use Rattle.sim_memory.specs.Steps.{row_of}
use Rattle.sim_memory.proofs.CallerLemmas.{row_at, holder_of_is, holder_merged}
use Rattle.simulator.proofs.CallerLemmas.{added, added_more, added_none}
use Rattle.room_core.specs.Fields.{StepMap, Fields, entry_of_steps, holder_of_steps, shown_value}
use Rattle.room_core.specs.Agreements.{first_with, written, asks}
use Rattle.room_core.specs.Contents.{IsDue, first_write, next_write}
use Rattle.room_core.proofs.values.Entries.{or_zero, entry_of, shown_by_map, IsSmallEntry, AreSmall}

-- ---- the first of a list that passes a test

found_at : (test : ℕ → Bool) (list : List ℕ) (place : Option ℕ) → position test list ≡ place → (i : ℕ) → i < length list → test (get_or list i 0) ≡ true → (k : ℕ) × (place ≡ Some k)
found_at test list (Some k) is i below passes = (k, refl)
found_at test list None is i below passes =
    let long : length list ≤ position_or_len test list = none_within test list is in
    let fails : test (get_or list i 0) ≡ false = not-true _ (prefix_len_passes (λ one. not (test one)) list i 0 (omega arith)) in
    absurd (true_false (sym passes ∙ fails))
  where
    true_false : true ≡ false → ⊥
    true_false e = cc

-- the first simulator that has counted a write has counted it
pub first_has : (spec : RoomSpec) (fields : Fields) (p r a : ℕ) → a < spec.simulators → r ≤ fields.step a p → (first_with spec fields p r < spec.simulators) × (r ≤ fields.step (first_with spec fields p r) p)
first_has spec fields p r a below counted =
    let list = map (λ i. fields.step i p) (range_with_len 0 spec.simulators) in
    let long : length list ≡ spec.simulators = length-map-range_with_len (λ i. fields.step i p) 0 spec.simulators in
    let read : (i : ℕ) → i < spec.simulators → get_or list i 0 ≡ fields.step i p = λ i within. get_or-map-range_with_len (λ b. fields.step b p) 0 spec.simulators i i 0 within (omega arith) in
    let found = found_at (λ step. leb r step) list (position (λ step. leb r step) list) refl a (omega arith) (ap (λ (s : ℕ). leb r s) (read a below) ∙ le-leb r (fields.step a p) counted) in
    let at = position-Some (λ step. leb r step) list found.0 0 found.1 in
    let is : first_with spec fields p r ≡ found.0 = ap or_zero found.1 in
    let within : found.0 < spec.simulators = let b = at.0 in omega arith in
    let has : r ≤ fields.step found.0 p = let h = leb-true r (get_or list found.0 0) at.1 in let e = read found.0 within in omega arith in
    (subst (λ (k : ℕ). k < spec.simulators) (sym is) within, subst (λ (k : ℕ). r ≤ fields.step k p) (sym is) has)

-- ---- a due value is the only one

write_same : (action : Action) (value value' : ℕ) → action ≡ actions.Write value → action ≡ actions.Write value' → value ≡ value'
write_same action value value' is is' = cc

pub due_only : (spec : RoomSpec) (fields : Fields) (p r value value' : ℕ) → IsDue spec fields p r value → IsDue spec fields p r value' → value ≡ value'
due_only spec fields p r value value' (first_write one is) (first_write one' is') = is ∙ sym is'
due_only spec fields p r value value' (first_write one is) (next_write k first round fixed act) = absurd (omega arith)
due_only spec fields p r value value' (next_write k first round fixed act) (first_write one is) = absurd (omega arith)
due_only spec fields p r value value' (next_write k first round fixed act) (next_write k' first' round' fixed' act') =
    let same : k ≡ k' = omega arith in
    write_same (asks spec fields p k) value value' act (ap (λ (q : ℕ). asks spec fields p q) same ∙ act')

-- ---- where each value that was counted is due

abbrev pub ValuesDue : RoomSpec → Fields → Type 0
ValuesDue spec fields = (i p r : ℕ) → i < spec.simulators → p < processes spec → 1 ≤ r → r ≤ fields.step i p → IsDue spec fields p r (fields.value i p r)

abbrev pub ValuesLow : RoomSpec → Fields → Type 0
ValuesLow spec fields = (i p r : ℕ) → i < spec.simulators → p < processes spec → 1 ≤ r → r ≤ fields.step i p → fields.value i p r ≤ greatest

pub written_is : (spec : RoomSpec) (fields : Fields) (i p r : ℕ) → ValuesDue spec fields → i < spec.simulators → p < processes spec → 1 ≤ r → r ≤ fields.step i p → fields.value i p r ≡ written spec fields p r
written_is spec fields i p r due below below' first counted =
    let has = first_has spec fields p r i below counted in
    due_only spec fields p r (fields.value i p r) (written spec fields p r) (due i p r below below' first counted) (due (first_with spec fields p r) p r has.0 below' first has.1)

-- the value that is loaded of a process, of a snapshot that is at most the step numbers
pub shown_value_is : (spec : RoomSpec) (fields : Fields) (snapshot : StepMap) (p : ℕ) → ValuesLow spec fields → ValuesDue spec fields → 0 < spec.simulators → p < processes spec → ((a : ℕ) → a < spec.simulators → snapshot a p ≤ fields.step a p) → 1 ≤ entry_of_steps spec snapshot p
    → Some (min (shown_value spec fields snapshot p) greatest) ≡ entry_of spec fields p (entry_of_steps spec snapshot p)
shown_value_is spec fields snapshot p small due some below within first =
    let holder = holder_of_is spec.simulators snapshot p some in
    let h = holder_of_steps spec snapshot p in
    let r = entry_of_steps spec snapshot p in
    let has : r ≤ fields.step h p = let e = holder_merged spec.simulators snapshot p h holder in let b = within h holder.below in omega arith in
    let least = small h p r holder.below below first has in
    let cut : min (fields.value h p r) greatest ≡ fields.value h p r = omega arith in
    ap Some (cut ∙ written_is spec fields h p r due holder.below below first has) ∙ sym (ap (λ (b : Bool). cond b None (Some (written spec fields p r))) (ne_eqb r 0 (λ e. omega arith)))

-- ---- small entries

pub small_more : (entries : List (Option ℕ)) (entry : Option ℕ) → AreSmall entries → IsSmallEntry entry → AreSmall (entries ++ entry ∷ [])
small_more [] entry small one = (one, tt)
small_more (first ∷ entries) entry small one = (small.0, small_more entries entry small.1 one)

small_by : (b : Bool) (next entries : List (Option ℕ)) → AreSmall next → AreSmall entries → AreSmall (cond b next entries)
small_by true next entries more small = more
small_by false next entries more small = small

pub padded_small : (row : ℕ → ℕ) (more : ℕ) (entries : List (Option ℕ)) → AreSmall entries → AreSmall (added row more entries)
padded_small row zero entries small = subst AreSmall (sym (added_none row entries)) small
padded_small row (suc more) entries small =
    subst AreSmall (sym (added_more row more entries))
    (small_by (eqb (row (length entries)) 0) (added row more (entries ++ None ∷ [])) entries (padded_small row more (entries ++ None ∷ []) (small_more entries None small tt)) small)

-- ---- the entries so far

abbrev pub AreFirst : List (Option ℕ) → List (Option ℕ) → Type 0
AreFirst entries all = entries ≡ take (length entries) all

pub first_more : (entries all : List (Option ℕ)) (entry : Option ℕ) → length entries < length all → AreFirst entries all → get_or all (length entries) None ≡ entry → AreFirst (entries ++ entry ∷ []) all
first_more entries all entry less are is =
    let long : length (entries ++ entry ∷ []) ≡ length entries + 1 = length-append entries (entry ∷ []) in
    ap (λ (l : List (Option ℕ)). l ++ entry ∷ []) are ∙ ap (λ (e : Option ℕ). take (length entries) all ++ e ∷ []) (sym is) ∙ sym (take_more all (length entries) None less) ∙ ap (λ (n : ℕ). take n all) (sym long)

padded_by : (b : Bool) (all entries next : List (Option ℕ)) → (b ≡ true → AreFirst next all) → AreFirst entries all → AreFirst (cond b next entries) all
padded_by true all entries next more are = more refl
padded_by false all entries next more are = are

-- what padding adds is what the row shows of processes that have not written
pub padded_first : (row : ℕ → ℕ) (all : List (Option ℕ)) (more : ℕ) (entries : List (Option ℕ)) → length entries + more ≤ length all → ((p : ℕ) → p < length all → row p ≡ 0 → get_or all p None ≡ None) → AreFirst entries all → AreFirst (added row more entries) all
padded_first row all zero entries room none are = subst (λ (l : List (Option ℕ)). AreFirst l all) (sym (added_none row entries)) are
padded_first row all (suc more) entries room none are =
    let long : length (entries ++ None ∷ []) ≡ length entries + 1 = length-append entries (None ∷ []) in
    let empty : eqb (row (length entries)) 0 ≡ true → get_or all (length entries) None ≡ None = λ is. none (length entries) (omega arith) (eqb-true (row (length entries)) 0 is) in
    subst (λ (l : List (Option ℕ)). AreFirst l all) (sym (added_more row more entries))
    (padded_by (eqb (row (length entries)) 0) all entries (added row more (entries ++ None ∷ []))
    (λ is. padded_first row all more (entries ++ None ∷ []) (omega arith) none (first_more entries all None (omega arith) are (empty is))) are)

pub length_of_shown : (spec : RoomSpec) (fields : Fields) (snapshot : StepMap) → length (shown_by_map spec fields snapshot) ≡ processes spec
length_of_shown spec fields snapshot = length-map-range_with_len (λ p. entry_of spec fields p (get_or (row_of spec.simulators (processes spec) snapshot) p 0)) 0 (processes spec)

pub shown_at : (spec : RoomSpec) (fields : Fields) (snapshot : StepMap) (p : ℕ) → p < processes spec → get_or (shown_by_map spec fields snapshot) p None ≡ entry_of spec fields p (entry_of_steps spec snapshot p)
shown_at spec fields snapshot p below =
    get_or-map-range_with_len (λ q. entry_of spec fields q (get_or (row_of spec.simulators (processes spec) snapshot) q 0)) 0 (processes spec) p p None below (omega arith)
    ∙ ap (λ (row : ℕ). entry_of spec fields p row) (row_at spec.simulators (processes spec) snapshot p below)

pub shown_none : (spec : RoomSpec) (fields : Fields) (snapshot : StepMap) (p : ℕ) → p < processes spec → entry_of_steps spec snapshot p ≡ 0 → get_or (shown_by_map spec fields snapshot) p None ≡ None
shown_none spec fields snapshot p below is = shown_at spec fields snapshot p below ∙ ap (λ (row : ℕ). entry_of spec fields p row) is

-- two fields show the same, where they have written the same
pub shown_same : (spec : RoomSpec) (fields after : Fields) (snapshot : StepMap) → ((p : ℕ) → p < processes spec → entry_of_steps spec snapshot p ≢ 0 → written spec after p (entry_of_steps spec snapshot p) ≡ written spec fields p (entry_of_steps spec snapshot p)) → shown_by_map spec after snapshot ≡ shown_by_map spec fields snapshot
shown_same spec fields after snapshot same =
    ext_get_or None (shown_by_map spec after snapshot) (shown_by_map spec fields snapshot) (length_of_shown spec after snapshot ∙ sym (length_of_shown spec fields snapshot))
    (λ p within.
    let long = length_of_shown spec after snapshot in
    let below : p < processes spec = omega arith in
    shown_at spec after snapshot p below ∙ by_row p below (eqb (entry_of_steps spec snapshot p) 0) refl ∙ sym (shown_at spec fields snapshot p below))
  where
    by_row : (p : ℕ) → p < processes spec → (b : Bool) → eqb (entry_of_steps spec snapshot p) 0 ≡ b → cond b None (Some (written spec after p (entry_of_steps spec snapshot p))) ≡ cond b None (Some (written spec fields p (entry_of_steps spec snapshot p)))
    by_row p below true is = refl
    by_row p below false is = ap Some (same p below (eqb-false _ _ is))
