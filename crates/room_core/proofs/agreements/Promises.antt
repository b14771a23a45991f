-- What a room promises of its agreements, its writes and its decisions.
use Rattle.std.proofs.Common.{◌≡◌, Contains, ◌≢◌, ◌⊎◌, ℕ, ◌+◌, ◌-◌, ◌<◌, ◌≤◌, ◌&&◌, ◌||◌, Bool, true, false, eqb, ltb, List, get_or, inl, inr, refl, sym, ap, ◌∙◌, subst, arith}
use Rattle.std.proofs.lemmas.Bool.{lt-ltb, ltb-true, eqb-true, eqb-false, not-true, and_parts, or_left, or_right}
use Rattle.std.proofs.lemmas.List.{get_or_read}
use Rattle.std.proofs.lemmas.List.FromFn.{length-map-range_with_len, get_or-map-range_with_len}
use Rattle.std.proofs.lemmas.List.Folds.{Any-from_list_any}
use Rattle.protocol_lang.specs.Meaning.{first_value}
use Rattle.protocol_lang.specs.declared.meaning.Action.TheVariants as actions
use Rattle.room_spec.specs.Rooms.{RoomSpec, IsWithinLimits, is_reduction, processes}
use Rattle.safe_agreement.specs.Levels.{IsResolved, has_level}
use Rattle.safe_agreement.proofs.CallerLemmas.{no_level_at}
use Rattle.sim_memory.specs.Steps.{IsRowAtMost, row_of, merged_of}
use Rattle.sim_memory.proofs.CallerLemmas.{row_at, merged_at, merged_reached, merged_below}
use Rattle.room_core.specs.Calls.{RoomState}
use Rattle.room_core.specs.Fields.{StepMap, Fields, levels_at}
use Rattle.room_core.specs.Reading.{AreFieldsOf}
use Rattle.room_core.specs.Agreements.{HasAgreed, IsFixedAt, asks, greatest_step, has_out, is_resolved, is_out, is_passed, outs_at}
use Rattle.room_core.specs.Agreements as passed
use Rattle.room_core.specs.Contents.{IsDue, first_write, next_write}
use Rattle.room_core.specs.Tracks.{KeepsTrack}
use Rattle.room_core.proofs.fields.FieldCalls.{fields_stand}
use Rattle.room_core.proofs.agreements.Sound.{fields_sound}
use Rattle.room_core.proofs.agreements.Fixing.{IsPassed, resolved, written, decided, fixed_at, passed_is_fixed, fixed_has_least}
use Rattle.room_core.proofs.agreements.Exact.{room_entry, room_rows}
use Rattle.room_core.proofs.moments.Contents.{written_is}
use Rattle.room_core.proofs.values.Known.{IsKnown, decided_last, view_is, view_within}
use Rattle.room_core.proofs.values.Knowing.{fields_inputs, fields_known}
use Rattle.room_core.proofs.agreements.Inputs.{first_own, input_is, known_value, own_at, unknown_input}
use Rattle.room_core.proofs.agreements.Agreed.{fields_within}

-- ---- passed, as a test

either : (a b : Bool) → (a || b) ≡ true → (a ≡ true) ⊎ (b ≡ true)
either true b is = inl refl
either false b is = inr is

resolved_by : (levels : List ℕ) → has_level 2 levels ≡ true → has_level 1 levels ≡ false → IsResolved levels
resolved_by levels two one =
    let at = Any-from_list_any (λ level. eqb level 2) levels two in
    record {
      simulator = at.0;
      below = at.2;
      two = sym (get_or_read levels at.0 at.1 at.2 (sym at.3) 0) ∙ eqb-true _ _ at.4;
      no_one = λ i below. no_level_at 1 levels i one below;
    }

pub some_out : (spec : RoomSpec) (fields : Fields) (j : ℕ) → has_out spec fields j ≡ true → (i : ℕ) × (i < spec.simulators) × (fields.out i j ≢ 0)
some_out spec fields j has =
    let outs = outs_at spec fields j in
    let at = Any-from_list_any is_out outs has in
    let below : at.0 < spec.simulators = subst (λ (m : ℕ). at.0 < m) (length-map-range_with_len (λ (i : ℕ). fields.out i j) 0 spec.simulators) at.2 in
    let is : at.1 ≡ fields.out at.0 j = get_or_read outs at.0 at.1 at.2 (sym at.3) 0 ∙ get_or-map-range_with_len (λ (i : ℕ). fields.out i j) 0 spec.simulators at.0 at.0 0 below (omega arith) in
    (at.0, below, λ none. eqb-false at.1 0 (not-true (eqb at.1 0) at.4) (is ∙ none))

-- ---- of every room with these fields

module _ (room : RoomState) (fields : Fields) (limits : IsWithinLimits room.spec) (are : AreFieldsOf room fields) where
  m : ℕ
  m = room.spec.simulators

  n : ℕ
  n = processes room.spec

  some : 0 < room.spec.simulators
  some = let b = limits.shape.m_range.0 in omega arith

  known : IsKnown room.spec fields
  known = fields_known room fields limits are

  tracks : KeepsTrack room.spec fields
  tracks = (fields_stand room fields limits are).tracks

  -- the decision that a simulator has stored
  less_one : (out : ℕ) → out ≢ 0 → out ≡ (out - 1) + 1
  less_one out none = omega (arith, none)

  last_of : (i j : ℕ) → i < room.spec.simulators → j < processes room.spec → fields.out i j ≢ 0 → fields.step i j ≡ greatest_step room.spec fields j
  last_of i j below within out =
      let most : greatest_step room.spec fields j ≤ fields.step i j = merged_below room.spec.simulators fields.step j (fields.step i j)
      (λ h below'. decided_last room.spec fields i h j (fields.out i j - 1) known below below' within (less_one (fields.out i j) out)) in
      let least : fields.step i j ≤ greatest_step room.spec fields j = merged_at room.spec.simulators fields.step i j below in
      omega arith

  pub passed_by : (j k : ℕ) → j < processes room.spec → is_passed room.spec fields j k ≡ true → IsPassed room.spec fields j k
  passed_by j k within is = by_resolved (either _ _ is)
    where
      by_out : has_out room.spec fields j && eqb (greatest_step room.spec fields j) k ≡ true → IsPassed room.spec fields j k
      by_out both =
          let parts = and_parts (has_out room.spec fields j) (eqb (greatest_step room.spec fields j) k) both in
          let out = some_out room.spec fields j parts.0 in
          let same : greatest_step room.spec fields j ≡ k = eqb-true _ _ parts.1 in
          let last = last_of out.0 j out.1 within out.2 in
          decided out.0 out.1 out.2 (omega (arith, same, last))

      by_step : (is_resolved room.spec fields j k ≡ true) ⊎ (ltb k (greatest_step room.spec fields j) ≡ true) → IsPassed room.spec fields j k
      by_step (inl is') =
          let parts = and_parts _ _ is' in
          resolved (resolved_by (levels_at room.spec fields j k) parts.0 (not-true _ parts.1))
      by_step (inr less) =
          let who = merged_reached room.spec.simulators fields.step j some in
          let less' : k < greatest_step room.spec fields j = ltb-true _ _ less in
          written who.0 who.1 (let e = who.2 in omega (arith, less', e))

      by_resolved : ((is_resolved room.spec fields j k || ltb k (greatest_step room.spec fields j)) ≡ true) ⊎ (has_out room.spec fields j && eqb (greatest_step room.spec fields j) k ≡ true) → IsPassed room.spec fields j k
      by_resolved (inl is') = by_step (either _ _ is')
      by_resolved (inr both) = by_out both

  pub passed_fixed : (j k : ℕ) → j < processes room.spec → 1 ≤ k → is_passed room.spec fields j k ≡ true → IsFixedAt room.spec fields j k
  passed_fixed j k within first is =
      fixed_at room.spec fields tracks j k (passed_is_fixed room.spec fields j k tracks (fields_sound room fields limits are) first (passed_by j k within is))

  -- the row of a fixed agreement is that of a proposal that stands
  row_is : (j k : ℕ) (at : IsFixedAt room.spec fields j k) → passed.row_at room.spec fields j k ≡ row_of room.spec.simulators (processes room.spec) (fields.view (fixed_has_least room.spec fields j k at).0 j k)
  row_is j k at = ap (λ (view : StepMap). row_of room.spec.simulators (processes room.spec) view) (view_is room.spec fields (fields_within room fields limits are) j k at)

  own_entry : (j k : ℕ) → j < processes room.spec → 1 ≤ k → IsFixedAt room.spec fields j k → get_or (passed.row_at room.spec fields j k) j 0 ≡ k
  own_entry j k within first at =
      let least = fixed_has_least room.spec fields j k at in
      ap (λ (row : List ℕ). get_or row j 0) (row_is j k at) ∙ row_at room.spec.simulators (processes room.spec) (fields.view least.0 j k) j within ∙ room_entry room fields limits are least.0 j k least.1 first least.3

  compare : (j k p r : ℕ) → j < processes room.spec → 1 ≤ k → IsFixedAt room.spec fields j k → p < processes room.spec → 1 ≤ r → IsFixedAt room.spec fields p r
      → IsRowAtMost (passed.row_at room.spec fields j k) (passed.row_at room.spec fields p r) ⊎ IsRowAtMost (passed.row_at room.spec fields p r) (passed.row_at room.spec fields j k)
  compare j k p r within first at within' first' at' =
      let one = fixed_has_least room.spec fields j k at in
      let two = fixed_has_least room.spec fields p r at' in
      subst (λ (row : List ℕ). IsRowAtMost row (passed.row_at room.spec fields p r) ⊎ IsRowAtMost (passed.row_at room.spec fields p r) row) (sym (row_is j k at))
      (subst (λ (row : List ℕ). IsRowAtMost (row_of room.spec.simulators (processes room.spec) (fields.view one.0 j k)) row ⊎ IsRowAtMost row (row_of room.spec.simulators (processes room.spec) (fields.view one.0 j k))) (sym (row_is p r at'))
      (room_rows room fields limits are one.0 j k two.0 p r one.1 two.1 first first' one.3 two.3))

  pub within_steps : (j k p : ℕ) → j < processes room.spec → 1 ≤ k → IsFixedAt room.spec fields j k → p < processes room.spec → get_or (passed.row_at room.spec fields j k) p 0 ≤ greatest_step room.spec fields p
  within_steps j k p within first at below =
      let view = passed.view_at room.spec fields j k in
      let most = view_within room.spec fields (fields_within room fields limits are) j k first at in
      let row : get_or (passed.row_at room.spec fields j k) p 0 ≡ merged_of room.spec.simulators view p = row_at room.spec.simulators (processes room.spec) view p below in
      let up : merged_of room.spec.simulators view p ≤ greatest_step room.spec fields p = merged_below room.spec.simulators view p (greatest_step room.spec fields p)
      (λ i low. let a = most i p low below in let b = merged_at room.spec.simulators fields.step i p low in omega (arith, a, b)) in
      omega (arith, row, up)

  -- a round before one that is passed was counted by whoever raised that one
  pub all_before : (j k r : ℕ) → j < processes room.spec → 1 ≤ k → k < r → is_passed room.spec fields j r ≡ true → is_passed room.spec fields j k ≡ true
  all_before j k r within first less is =
      let at = passed_fixed j r within (omega arith) is in
      let own = own_entry j r within (omega arith) at in
      let most = within_steps j r j within (omega arith) at within in
      let counted : ltb k (greatest_step room.spec fields j) ≡ true = lt-ltb k (greatest_step room.spec fields j) (omega arith) in
      or_left (is_resolved room.spec fields j k || ltb k (greatest_step room.spec fields j)) _ (or_right (is_resolved room.spec fields j k) _ counted)

  -- who has counted a write, and its value
  value_due : (p r : ℕ) → p < processes room.spec → 1 ≤ r → r ≤ greatest_step room.spec fields p → IsDue room.spec fields p r (passed.written room.spec fields p r)
  value_due p r within first most =
      let who = merged_reached room.spec.simulators fields.step p some in
      let counted : r ≤ fields.step who.0 p = let e = who.2 in omega (arith, most, e) in
      subst (λ (value : ℕ). IsDue room.spec fields p r value) (written_is room.spec fields who.0 p r known.values who.1 within first counted)
      (known.values who.0 p r who.1 within first counted)

  first_due : (p value : ℕ) → IsDue room.spec fields p 1 value → value ≡ first_value room.spec.protocol (passed.input_at room.spec fields p) p (processes room.spec)
  first_due p value (first_write one is) = is
  first_due p value (next_write k first round fixed act) = absurd (omega (arith, first, round))

  next_due : (p r value : ℕ) → 1 ≤ r → IsDue room.spec fields p (r + 1) value → asks room.spec fields p r ≡ actions.Write value
  next_due p r value first (first_write one is) = absurd (omega (arith, first, one))
  next_due p r value first (next_write k first' round fixed act) =
      let same : r ≡ k = omega (arith, round) in
      ap (λ (q : ℕ). asks room.spec fields p q) same ∙ act

  -- in a reduction each input is a simulator's own: that which was agreed on, or the first simulator's
  own_input : (p : ℕ) → p < processes room.spec → is_reduction room.spec ≡ true → Contains room.spec.own (passed.input_at room.spec fields p)
  own_input p within kind = by_bool (passed.is_input_known room.spec fields p) refl
    where
      by_bool : (b : Bool) → passed.is_input_known room.spec fields p ≡ b → Contains room.spec.own (passed.input_at room.spec fields p)
      by_bool true is =
          let value = known_value room.spec fields tracks (fields_sound room fields limits are) (fields_inputs room fields limits are) p within is in
          subst (Contains room.spec.own) (sym (input_is room.spec fields tracks (fields_sound room fields limits are) (fields_inputs room fields limits are) p within is)) (own_at room.spec (passed.shown_of room.spec fields p 0) limits value.0 kind)
      by_bool false is = subst (Contains room.spec.own) (sym (unknown_input room.spec fields p is)) (first_own room.spec p limits within kind)

  pub rooms_agree : HasAgreed room.spec fields
  rooms_agree = record {
    passed_is_fixed = λ j k within first is. passed_fixed j k within first is;
    own_entry_is_exact = λ j k within first last is. own_entry j k within first is;
    snapshots_compare = λ j k p r within first last is within' first' last' is'. compare j k p r within first is within' first' is';
    row_is_within = λ j k p within first last is below. within_steps j k p within first is below;
    inputs_are_own = λ p below kind. own_input p below kind;
    steps_are_within = λ p below. merged_below room.spec.simulators fields.step p room.spec.rounds (λ i low. tracks.range.step i p);
    first_is_due = λ p below first. first_due p (passed.written room.spec fields p 1) (value_due p 1 below (omega arith) first);
    next_is_due = λ p r below first less. next_due p r (passed.written room.spec fields p (r + 1)) first (value_due p (r + 1) below (omega arith) (omega (arith, less)));
    decisions_agree = λ i j below within out. (last_of i j below within out, (known.outs i j (fields.out i j - 1) below within (less_one (fields.out i j) out)).action);
  }
