-- What was agreed on in a reduction is what makes its history a run of the ordinary room with the inputs that were agreed on.
use Rattle.std.proofs.Common.{◌≡◌, ℕ, zero, suc, ◌+◌, ◌*◌, ◌<◌, ◌≤◌, ◌&&◌, Bool, true, false, cond, List, length, map, Option, slice_index, inl, inr, refl, sym, ap, ◌∙◌, subst, arith}
use Rattle.std.specs.List.{list_all, range_with_len}
use Rattle.std.proofs.lemmas.Bool.{le-leb}
use Rattle.std.proofs.lemmas.List.FromFn.{length-map-range_with_len, get_or-map-range_with_len}
use Rattle.protocol_lang.specs.Numbers.{greatest}
use Rattle.protocol_lang.specs.Meaning.{first_value, next_action}
use Rattle.room_spec.specs.Rooms.{RoomSpec, IsShape, IsWithinLimits, bits_of, is_reduction, is_value, most_bits, processes, with_inputs}
use Rattle.sim_memory.specs.Steps.{row_of}
use Rattle.room_core.specs.Agreements.{DoCompare, HasAgreed, IsFixedAt, asks, input_at, row_at, run_spec, shown, shown_by, view_at}
use Rattle.room_core.specs.Calls.{RoomState}
use Rattle.room_core.specs.Fields.{Fields}
use Rattle.room_core.specs.Reading.{AreFieldsOf}
use Rattle.room_core.proofs.fields.FieldCalls.{fields_stand}
use Rattle.room_core.proofs.agreements.Inputs.{either_kind, input_low, ordinary_input}
use Rattle.room_core.proofs.agreements.Promises.{rooms_agree}
use Rattle.room_core.proofs.agreements.Sound.{fields_sound}
use Rattle.room_core.proofs.values.Knowing.{fields_inputs}

-- ---- the room with other inputs

module _ (spec : RoomSpec) (fields : Fields) (inputs : List ℕ) (long : length inputs ≡ processes spec) (each : (p : ℕ) → p < processes spec → slice_index inputs p ≡ input_at spec fields p) where
  abbrev other : RoomSpec
  other = with_inputs spec inputs

  -- the agreements are the same
  fixed_to : (j k : ℕ) → IsFixedAt spec fields j k → IsFixedAt other fields j k
  fixed_to j k at = record { simulator = at.simulator; below = at.below; two = at.two; seen = at.seen }

  fixed_back : (j k : ℕ) → IsFixedAt other fields j k → IsFixedAt spec fields j k
  fixed_back j k at = record { simulator = at.simulator; below = at.below; two = at.two; seen = at.seen }

  below_back : (p : ℕ) → p < length inputs → p < processes spec
  below_back p below = omega (arith, long, below)

  row_same : (j k : ℕ) → row_at other fields j k ≡ row_at spec fields j k
  row_same j k = ap (λ (n : ℕ). row_of spec.simulators n (view_at spec fields j k)) long

  entry_same : (j k p : ℕ) → slice_index (row_at other fields j k) p ≡ slice_index (row_at spec fields j k) p
  entry_same j k p = ap (λ (row : List ℕ). slice_index row p) (row_same j k)

  input_same : (p : ℕ) → p < processes spec → input_at other fields p ≡ input_at spec fields p
  input_same p below = ordinary_input other fields p refl ∙ each p below

  shown_same : (j k : ℕ) → shown_by other fields (row_at other fields j k) ≡ shown_by spec fields (row_at spec fields j k)
  shown_same j k =
      ap (λ (n : ℕ). map (λ p. shown spec fields p (slice_index (row_at other fields j k) p)) (range_with_len 0 n)) long
      ∙ ap (λ (row : List ℕ). map (λ p. shown spec fields p (slice_index row p)) (range_with_len 0 (processes spec))) (row_same j k)

  pub asks_same : (j k : ℕ) → j < processes spec → asks other fields j k ≡ asks spec fields j k
  asks_same j k below =
      ap (λ (input : ℕ). next_action spec.protocol input j k (shown_by other fields (row_at other fields j k))) (input_same j below)
      ∙ ap (λ (view : List (Option ℕ)). next_action spec.protocol (input_at spec fields j) j k view) (shown_same j k)

  pub agreed_other : HasAgreed spec fields → HasAgreed other fields
  agreed_other agreed = record {
    passed_is_fixed = λ j k below first is. fixed_to j k (agreed.passed_is_fixed j k (below_back j below) first is);
    own_entry_is_exact = λ j k below first last at. entry_same j k j ∙ agreed.own_entry_is_exact j k (below_back j below) first last (fixed_back j k at);
    snapshots_compare = λ j k p r below first last at below' first' last' at'.
        subst (λ (row : List ℕ). DoCompare row (row_at other fields p r)) (sym (row_same j k))
        (subst (λ (row : List ℕ). DoCompare (row_at spec fields j k) row) (sym (row_same p r))
        (agreed.snapshots_compare j k p r (below_back j below) first last (fixed_back j k at) (below_back p below') first' last' (fixed_back p r at')));
    row_is_within = λ j k p below first last at below'.
        let most = agreed.row_is_within j k p (below_back j below) first last (fixed_back j k at) (below_back p below') in
        let same = entry_same j k p in
        omega (arith, most, same);
    inputs_are_own = λ p below kind. absurd cc;
    steps_are_within = λ p below. agreed.steps_are_within p (below_back p below);
    first_is_due = λ p below first.
        agreed.first_is_due p (below_back p below) first ∙ ap (λ (input : ℕ). first_value spec.protocol input p (processes spec)) (sym (input_same p (below_back p below)))
        ∙ ap (λ (n : ℕ). first_value spec.protocol (input_at other fields p) p n) (sym long);
    next_is_due = λ p r below first less. asks_same p r (below_back p below) ∙ agreed.next_is_due p r (below_back p below) first less;
    decisions_agree = λ i j below below' out.
        let at = agreed.decisions_agree i j below (below_back j below') out in
        (at.0, asks_same j (fields.step i j) (below_back j below') ∙ at.1);
  }

-- ---- the run of a room

abbrev agreed_inputs : RoomSpec → Fields → List ℕ
agreed_inputs spec fields = map (input_at spec fields) (range_with_len 0 (processes spec))

as_many : (spec : RoomSpec) (fields : Fields) → length (agreed_inputs spec fields) ≡ processes spec
as_many spec fields = length-map-range_with_len (input_at spec fields) 0 (processes spec)

each_input : (spec : RoomSpec) (fields : Fields) (p : ℕ) → p < processes spec → slice_index (agreed_inputs spec fields) p ≡ input_at spec fields p
each_input spec fields p below = get_or-map-range_with_len (input_at spec fields) 0 (processes spec) p p 0 below (omega arith)

-- what holds of the one or of the other
by_kind : (P : RoomSpec → Type 0) (spec : RoomSpec) (fields : Fields) → (is_reduction spec ≡ true → P (with_inputs spec (agreed_inputs spec fields))) → (is_reduction spec ≡ false → P spec) → P (run_spec spec fields)
by_kind P spec fields reduction ordinary = elim (either_kind (is_reduction spec)) [
  | inl kind ↦ subst (λ (b : Bool). P (cond b (with_inputs spec (agreed_inputs spec fields)) spec)) (sym kind) (reduction kind)
  | inr kind ↦ subst (λ (b : Bool). P (cond b (with_inputs spec (agreed_inputs spec fields)) spec)) (sym kind) (ordinary kind)
]

pub run_ordinary : (spec : RoomSpec) (fields : Fields) → is_reduction spec ≡ false → run_spec spec fields ≡ spec
run_ordinary spec fields kind = ap (λ (b : Bool). cond b (with_inputs spec (agreed_inputs spec fields)) spec) kind

pub run_kind : (spec : RoomSpec) (fields : Fields) → is_reduction (run_spec spec fields) ≡ false
run_kind spec fields = by_kind (λ s. is_reduction s ≡ false) spec fields (λ kind. refl) (λ kind. kind)

pub run_processes : (spec : RoomSpec) (fields : Fields) → processes (run_spec spec fields) ≡ processes spec
run_processes spec fields = by_kind (λ s. processes s ≡ processes spec) spec fields (λ kind. as_many spec fields) (λ kind. refl)

pub run_inputs : (spec : RoomSpec) (fields : Fields) (j : ℕ) → j < processes spec → slice_index (run_spec spec fields).inputs j ≡ input_at spec fields j
run_inputs spec fields j below = by_kind (λ s. slice_index s.inputs j ≡ input_at spec fields j) spec fields (λ kind. each_input spec fields j below) (λ kind. sym (ordinary_input spec fields j kind))

pub run_asks : (spec : RoomSpec) (fields : Fields) (j k : ℕ) → j < processes spec → asks (run_spec spec fields) fields j k ≡ asks spec fields j k
run_asks spec fields j k below =
    by_kind (λ s. asks s fields j k ≡ asks spec fields j k) spec fields (λ kind. asks_same spec fields (agreed_inputs spec fields) (as_many spec fields) (each_input spec fields) j k below) (λ kind. refl)

-- no input is above the greatest value
all_values : (input : ℕ → ℕ) (a n : ℕ) → ((p : ℕ) → a ≤ p → p < a + n → input p ≤ greatest) → list_all is_value (map input (range_with_len a n)) ≡ true
all_values input a zero low = refl
all_values input a (suc n) low =
    ap (λ (b : Bool). b && list_all is_value (map input (range_with_len (a + 1) n))) (le-leb (input a) greatest (low a (omega arith) (omega arith)))
    ∙ all_values input (a + 1) n (λ p from to. low p (omega arith) (omega arith))

module _ (room : RoomState) (fields : Fields) (limits : IsWithinLimits room.spec) (are : AreFieldsOf room fields) where
  pub run_agreed : HasAgreed (run_spec room.spec fields) fields
  run_agreed =
      by_kind (λ s. HasAgreed s fields) room.spec fields
      (λ kind. agreed_other room.spec fields (agreed_inputs room.spec fields) (as_many room.spec fields) (each_input room.spec fields) (rooms_agree room fields limits are)) (λ kind. rooms_agree room fields limits are)

  other_limits : IsWithinLimits (with_inputs room.spec (agreed_inputs room.spec fields))
  other_limits =
      let spec = room.spec in
      let long = as_many spec fields in
      record {
        name = limits.name;
        shape = subst (λ (n : ℕ). IsShape n spec.simulators (bits_of spec.rounds) spec.rounds) (sym long) limits.shape;
        width = subst (λ (n : ℕ). spec.simulators * n * bits_of spec.rounds ≤ most_bits spec.version) (sym long) limits.width;
        turns = limits.turns;
        task = limits.task;
        fuses = limits.fuses;
        values = all_values (input_at spec fields) 0 (processes spec) (λ p from to. input_low spec fields p limits (fields_stand room fields limits are).tracks (fields_sound room fields limits are) (fields_inputs room fields limits are) (omega (arith, to)));
        own = tt;
        numerals = limits.numerals;
      }

  pub run_limits : IsWithinLimits (run_spec room.spec fields)
  run_limits = by_kind IsWithinLimits room.spec fields (λ kind. other_limits) (λ kind. limits)
