-- The ordinary room of which the history of some fields is a run: what it has of the room, and its inputs.
use Rattle.std.proofs.Common.{◌≡◌, ℕ, suc, ◌+◌, ◌<◌, ◌≤◌, Bool, true, false, cond, List, [], ◌∷◌, ◌++◌, length, map, Contains, Option, Some, None, refl, sym, ap, ap₂, ◌∙◌, subst, arith, inl, inr}
use Rattle.std.specs.Prelude.{slice_index, unwrap_or, ◌&&◌}
use Rattle.std.specs.List.{list_any, range_with_len}
use Rattle.std.proofs.lemmas.Bool.{cases_Bool}
use Rattle.std.proofs.lemmas.List.FromFn.{length-map-range_with_len, get_or-map-range_with_len}
use Rattle.protocol_lang.specs.Meaning.{first_value, next_action}
use Rattle.protocol_lang.specs.declared.protocol.Protocol.{Protocol}
use Rattle.room_spec.specs.Rooms.{RoomSpec, is_reduction, processes, with_inputs}
use Rattle.simulator.specs.Minds.{goal_at, has_input}
use Rattle.transcript.specs.Reductions.{AreFromOwn}
use Rattle.transcript.specs.Runs.{IsRun}
use Rattle.transcript.specs.declared.event.Event.{Event}
use Rattle.room_core.specs.Agreements.{HasAgreed, agreed_input, input_at, is_input_known, row_at, run_spec, shown_of}
use Rattle.room_core.specs.Fields.{Fields}
use Rattle.ws_history.specs.Histories.{Snapshot, Source, blocks, history_from, last_writes}
use Rattle.ws_history.specs.Inputs.{IsRoomRun, IsRunBy}
use Rattle.ws_history.specs.Orders.{IsPassed, all_passed, in_order}

-- ---- what it has of the room

by_kind : (P : RoomSpec → Type 0) (b : Bool) (one other : RoomSpec) → P one → P other → P (cond b one other)
by_kind P true one other first second = first
by_kind P false one other first second = second

-- a list is the list of its entries
entries_of : (xs : List ℕ) (f : ℕ → ℕ) (a : ℕ) → ((p : ℕ) → f (a + p) ≡ slice_index xs p) → map f (range_with_len a (length xs)) ≡ xs
entries_of [] f a same = refl
entries_of (x ∷ xs) f a same =
    let here : a + 0 ≡ a = omega arith in
    ap₂ (λ (y : ℕ) (ys : List ℕ). y ∷ ys) (subst (λ (k : ℕ). f k ≡ x) here (same 0))
    (entries_of xs f (a + 1) (λ p. let next : a + suc p ≡ a + 1 + p = omega arith in subst (λ (k : ℕ). f k ≡ slice_index xs p) next (same (suc p))))

not_some : (input : ℕ) → ◌≡◌ {A = Option ℕ} None (Some input) → ⊥
not_some input is = cc

module _ (spec : RoomSpec) (fields : Fields) where
  abbrev pub inputs : List ℕ
  inputs = map (input_at spec fields) (range_with_len 0 (processes spec))

  pub processes_run : processes (run_spec spec fields) ≡ processes spec
  processes_run = by_kind (λ s. processes s ≡ processes spec) (is_reduction spec) (with_inputs spec inputs) spec (length-map-range_with_len (input_at spec fields) 0 (processes spec)) refl

  pub rounds_run : (run_spec spec fields).rounds ≡ spec.rounds
  rounds_run = by_kind (λ s. s.rounds ≡ spec.rounds) (is_reduction spec) (with_inputs spec inputs) spec refl refl

  pub protocol_run : (run_spec spec fields).protocol ≡ spec.protocol
  protocol_run = by_kind (λ s. s.protocol ≡ spec.protocol) (is_reduction spec) (with_inputs spec inputs) spec refl refl

  pub low_of_run : (p : ℕ) → p < processes (run_spec spec fields) → p < processes spec
  low_of_run p low = subst (λ (n : ℕ). p < n) processes_run low

  pub low_in_run : (p : ℕ) → p < processes spec → p < processes (run_spec spec fields)
  low_in_run p low = subst (λ (n : ℕ). p < n) (sym processes_run) low

  -- ---- its kind

  pub ordinary_run : is_reduction spec ≡ false → run_spec spec fields ≡ spec
  ordinary_run is = ap (λ (b : Bool). cond b (with_inputs spec inputs) spec) is

  pub reduction_run : is_reduction spec ≡ true → run_spec spec fields ≡ with_inputs spec inputs
  reduction_run is = ap (λ (b : Bool). cond b (with_inputs spec inputs) spec) is

  pub none_agreed : is_reduction spec ≡ false → (p : ℕ) → agreed_input spec fields p ≡ None
  none_agreed is p =
      ap (λ (b : Bool). cond (b && list_any (λ i. has_input (goal_at (fields.mind i).goals p)) (range_with_len 0 spec.simulators)) (Some (fields.value (shown_of spec fields p 0) p 0)) None) is

  pub agreed_is : (p : ℕ) → is_input_known spec fields p ≡ true → agreed_input spec fields p ≡ Some (fields.value (shown_of spec fields p 0) p 0)
  agreed_is p known = ap (λ (b : Bool). cond b (Some (fields.value (shown_of spec fields p 0) p 0)) None) known

  pub ordinary_input : is_reduction spec ≡ false → (p : ℕ) → input_at spec fields p ≡ slice_index spec.inputs p
  ordinary_input is p = ap (λ (o : Option ℕ). unwrap_or o (slice_index spec.inputs p)) (none_agreed is p)

  -- ---- its inputs

  pub input_run : (p : ℕ) → p < processes spec → slice_index (run_spec spec fields).inputs p ≡ input_at spec fields p
  input_run p low = elim (cases_Bool (is_reduction spec)) [
    | inl is ↦ ap (λ (s : RoomSpec). slice_index s.inputs p) (reduction_run is) ∙ get_or-map-range_with_len (input_at spec fields) 0 (processes spec) p p 0 low (omega arith)
    | inr is ↦ ap (λ (s : RoomSpec). slice_index s.inputs p) (ordinary_run is) ∙ sym (ordinary_input is p)
  ]

  pub inputs_run : map (input_at spec fields) (range_with_len 0 (processes spec)) ≡ (run_spec spec fields).inputs
  inputs_run = elim (cases_Bool (is_reduction spec)) [
    | inl is ↦ sym (ap (λ (s : RoomSpec). s.inputs) (reduction_run is))
    | inr is ↦ entries_of spec.inputs (input_at spec fields) 0 (λ p. let same : 0 + p ≡ p = omega arith in ap (input_at spec fields) same ∙ ordinary_input is p) ∙ sym (ap (λ (s : RoomSpec). s.inputs) (ordinary_run is))
  ]

  pub first_run : (p : ℕ) → p < processes spec
      → first_value (run_spec spec fields).protocol (slice_index (run_spec spec fields).inputs p) p (processes (run_spec spec fields)) ≡ first_value spec.protocol (input_at spec fields p) p (processes spec)
  first_run p low =
      ap (λ (q : Protocol). first_value q (slice_index (run_spec spec fields).inputs p) p (processes (run_spec spec fields))) protocol_run
      ∙ ap (λ (x : ℕ). first_value spec.protocol x p (processes (run_spec spec fields))) (input_run p low)
      ∙ ap (λ (n : ℕ). first_value spec.protocol (input_at spec fields p) p n) processes_run

  pub asked_run : (p k : ℕ) (row : List (Option ℕ)) → p < processes spec
      → next_action (run_spec spec fields).protocol (slice_index (run_spec spec fields).inputs p) p k row ≡ next_action spec.protocol (input_at spec fields p) p k row
  asked_run p k row low =
      ap (λ (q : Protocol). next_action q (slice_index (run_spec spec fields).inputs p) p k row) protocol_run
      ∙ ap (λ (x : ℕ). next_action spec.protocol x p k row) (input_run p low)

  -- in a reduction each is a simulator's own
  pub own_run : HasAgreed spec fields → is_reduction spec ≡ true → (p : ℕ) → p < processes spec → Contains spec.own (slice_index (run_spec spec fields).inputs p)
  own_run has is p low = subst (Contains spec.own) (sym (input_run p low)) (has.inputs_are_own p low is)

  pub run_from_own : HasAgreed spec fields → is_reduction spec ≡ true → AreFromOwn spec (run_spec spec fields).inputs
  run_from_own has is = record { many = processes_run; own = λ p low. own_run has is p low }

  -- one that was agreed on is a simulator's own
  pub own_agreed : HasAgreed spec fields → (p input : ℕ) → p < processes spec → agreed_input spec fields p ≡ Some input → Contains spec.own input
  own_agreed has p input low agreed = elim (cases_Bool (is_reduction spec)) [
    | inl is ↦ subst (Contains spec.own) (ap (λ (o : Option ℕ). unwrap_or o (slice_index spec.inputs p)) agreed) (has.inputs_are_own p low is)
    | inr is ↦ absurd (not_some input (sym (none_agreed is p) ∙ agreed))
  ]

  -- ---- its history

  pub history_run : (src : Source) → history_from (run_spec spec fields) src ≡ history_from spec src
  history_run src = ap (λ (n : ℕ). blocks src n [] src.order ++ last_writes src n) processes_run

  pub passed_of_run : (passed : ℕ → ℕ → Bool) (s : Snapshot) → IsPassed passed (processes (run_spec spec fields)) (run_spec spec fields).rounds s → IsPassed passed (processes spec) spec.rounds s
  passed_of_run passed s is = record {
    process = low_of_run s.process is.process;
    positive = is.positive;
    within = subst (λ (r : ℕ). s.round ≤ r) rounds_run is.within;
    is = is.is;
  }

  pub order_run : (passed : ℕ → ℕ → Bool) → in_order (row_at spec fields) (all_passed passed (processes spec) spec.rounds) ≡ in_order (row_at spec fields) (all_passed passed (processes (run_spec spec fields)) (run_spec spec fields).rounds)
  order_run passed = ap₂ (λ (n r : ℕ). in_order (row_at spec fields) (all_passed passed n r)) (sym processes_run) (sym rounds_run)

-- ---- rooms of both kinds

room_run_by : (spec : RoomSpec) (fields : Fields) (events : List Event) (b : Bool) → is_reduction spec ≡ b → HasAgreed spec fields → IsRun (run_spec spec fields) events → IsRunBy b spec events
room_run_by spec fields events false is has run = subst (λ (s : RoomSpec). IsRun s events) (ordinary_run spec fields is) run
room_run_by spec fields events true is has run =
    let same = reduction_run spec fields is in
    record {
      inputs = inputs spec fields;
      from_own = subst (λ (s : RoomSpec). AreFromOwn spec s.inputs) same (run_from_own spec fields has is);
      run = subst (λ (s : RoomSpec). IsRun s events) same run;
    }

-- a run from the inputs that were agreed on is a run of the room
pub room_run : (spec : RoomSpec) (fields : Fields) (events : List Event) → HasAgreed spec fields → IsRun (run_spec spec fields) events → IsRoomRun spec events
room_run spec fields events has run = room_run_by spec fields events (is_reduction spec) refl has run
