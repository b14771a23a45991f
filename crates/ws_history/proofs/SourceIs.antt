-- What a room promises of its agreements makes the source of its history one of passed agreements.
use Rattle.std.proofs.Common.{◌≡◌, ◌≢◌, ℕ, ◌-◌, ◌<◌, ◌≤◌, true, false, not, eqb, List, [], ◌∷◌, map, find, Contains, Some, sym, ap, ◌∙◌, subst, arith, inl, inr}
use Rattle.std.specs.List.{range_with_len}
use Rattle.std.specs.Option.{option_map}
use Rattle.std.proofs.lemmas.Bool.{cases_Bool, or_left, or_right, lt-ltb, eqb-true, eqb-false, not-true}
use Rattle.std.proofs.lemmas.List.FromFn.{length-map-range_with_len, get_or-map-range_with_len}
use Rattle.std.specs.Prelude.{slice_index}
use Rattle.protocol_lang.specs.Meaning.{first_value, next_action}
use Rattle.protocol_lang.specs.declared.meaning.Action.TheVariants as actions
use Rattle.room_spec.specs.Rooms.{RoomSpec, is_reduction, processes}
use Rattle.transcript.specs.Reductions.{AreFromOwn, IsRunOf}
use Rattle.transcript.specs.Runs.{IsRun}
use Rattle.ws_history.specs.Histories.{Snapshot, asks_after, shown_row}
use Rattle.ws_history.specs.Passed.{IsOfPassed}
use Rattle.ws_history.specs.Orders.{IsPassed}
use Rattle.room_core.proofs.CallerLemmas.{fixed_of, test_of}
use Rattle.sim_memory.proofs.CallerLemmas.{row_length}
use Rattle.room_core.specs.Fields.{Fields}
use Rattle.room_core.specs.Agreements.{IsFixedAt, outs_at, greatest_step, decided_in, input_at, is_fixed, is_passed, view_at, row_at, run_spec, shown, written, HasAgreed}
use Rattle.room_core.specs.Agreements as room
use Rattle.ws_history.specs.Sources.{decision_after, fixed_source_of, history_of, source_of}
use Rattle.ws_history.proofs.Order.{cons_first, cons_rest}
use Rattle.ws_history.proofs.PassedSources.{passed_is_run}
use Rattle.ws_history.proofs.RunSpecs.{asked_run, first_run, history_run, inputs, low_of_run, order_run, ordinary_run, passed_of_run, processes_run, reduction_run, rounds_run, run_from_own}

-- ---- decisions

pub found_in : (outs : List ℕ) (v : ℕ) → option_map (λ out. out - 1) (find (λ out. not (eqb out 0)) outs) ≡ Some v → (out : ℕ) × Contains outs out × (out ≢ 0) × (out - 1 ≡ v)
found_in [] v is = absurd cc
found_in (out ∷ outs) v is = elim (cases_Bool (not (eqb out 0))) [
  | inl nonzero ↦
      let here : Some (out - 1) ≡ Some v = rw nonzero at is in
      (out, cons_first out outs, eqb-false out 0 (not-true (eqb out 0) nonzero), let same : out - 1 ≡ v = cc in same)
  | inr zero_here ↦
      let more = found_in outs v (rw zero_here at is) in
      (more.0, cons_rest out outs more.0 more.1, more.2, more.3)
]

pub one_of : (f : ℕ → ℕ) (m out : ℕ) → Contains (map f (range_with_len 0 m)) out → (i : ℕ) × (i < m) × (f i ≡ out)
one_of f m out has =
    let i = has.0 in
    let low : i < m = let l = length-map-range_with_len f 0 m in let w = has.1 in omega arith in
    (i, low, sym (get_or-map-range_with_len f 0 m i i out low (omega arith)) ∙ has.2)

pub decided_is : (spec : RoomSpec) (fields : Fields) → HasAgreed spec fields → (j v : ℕ) → j < processes spec → decided_in spec fields j ≡ Some v → room.asks spec fields j (greatest_step spec fields j) ≡ actions.Decide v
decided_is spec fields has j v low is =
    let found = found_in (outs_at spec fields j) v is in
    let one = one_of (λ i. fields.out i j) spec.simulators found.0 found.1 in
    let i = one.0 in
    let some_out : fields.out i j ≢ 0 = λ none. found.2 (sym one.2 ∙ none) in
    let agree = has.decisions_agree i j one.1 low some_out in
    let value : fields.out i j - 1 ≡ v = ap (λ (o : ℕ). o - 1) one.2 ∙ found.3 in
    subst (λ (k : ℕ). room.asks spec fields j k ≡ actions.Decide v) agree.0 (agree.1 ∙ ap (λ (w : ℕ). actions.Decide w) value)

decision_is : (spec : RoomSpec) (fields : Fields) → HasAgreed spec fields → (j k v : ℕ) → j < processes spec → decision_after spec fields j k ≡ Some v → (room.asks spec fields j k ≡ actions.Decide v) × (greatest_step spec fields j ≡ k)
decision_is spec fields has j k v low is = elim (cases_Bool (eqb (greatest_step spec fields j) k)) [
  | inl at_last ↦
      let same : greatest_step spec fields j ≡ k = eqb-true (greatest_step spec fields j) k at_last in
      (subst (λ (r : ℕ). room.asks spec fields j r ≡ actions.Decide v) same (decided_is spec fields has j v low (rw at_last at is)), same)
  | inr earlier ↦ absurd (let none = rw earlier at is in cc)
]

-- ---- what somebody has gone beyond is passed

pub gone_beyond : (spec : RoomSpec) (fields : Fields) (p r : ℕ) → r < greatest_step spec fields p → is_passed spec fields p r ≡ true
gone_beyond spec fields p r less = or_left _ _ (or_right _ _ (lt-ltb r (greatest_step spec fields p) less))

-- ---- the source

-- what a row shows, and what the protocol asks for after it, is the same by the source as by the fields
pub asks_are : (spec : RoomSpec) (fields : Fields) (s : Snapshot) → s.process < processes spec → asks_after (run_spec spec fields) (source_of spec fields) s ≡ room.asks spec fields s.process s.round
asks_are spec fields s low =
    let row = row_at spec fields s.process s.round in
    asked_run spec fields s.process s.round (shown_row (source_of spec fields) s) low
    ∙ ap (λ (n : ℕ). next_action spec.protocol (input_at spec fields s.process) s.process s.round (map (λ p. shown spec fields p (slice_index row p)) (range_with_len 0 n)))
    (row_length spec.simulators (processes spec) (view_at spec fields s.process s.round))

module _ (spec : RoomSpec) (fields : Fields) (has : HasAgreed spec fields) where
  begins_run : (p : ℕ) → p < processes (run_spec spec fields) → 1 ≤ greatest_step spec fields p
      → written spec fields p 1 ≡ first_value (run_spec spec fields).protocol (slice_index (run_spec spec fields).inputs p) p (processes (run_spec spec fields))
  begins_run p low first = has.first_is_due p (low_of_run spec fields p low) first ∙ sym (first_run spec fields p (low_of_run spec fields p low))

  rounds_within : (p : ℕ) → p < processes (run_spec spec fields) → greatest_step spec fields p ≤ (run_spec spec fields).rounds
  rounds_within p low = subst (λ (r : ℕ). greatest_step spec fields p ≤ r) (sym (rounds_run spec fields)) (has.steps_are_within p (low_of_run spec fields p low))

pub is_of_passed : (spec : RoomSpec) (fields : Fields) → HasAgreed spec fields → IsOfPassed (run_spec spec fields) (source_of spec fields) (is_passed spec fields)
is_of_passed spec fields has = record {
  order = order_run spec fields (is_passed spec fields);
  known = λ s there.
      let is = passed_of_run spec fields (is_passed spec fields) s there in
      record {
        width = length-map-range_with_len _ 0 (processes spec) ∙ sym (processes_run spec fields);
        own = has.own_entry_is_exact s.process s.round is.process is.positive is.within (fixed s is);
        before = λ p r low pos less. gone_beyond spec fields p r (let most = has.row_is_within s.process s.round p is.process is.positive is.within (fixed s is) (low_of_run spec fields p low) in omega arith);
        shows = λ p low. has.row_is_within s.process s.round p is.process is.positive is.within (fixed s is) (low_of_run spec fields p low);
        goes_on = λ less. asks_are spec fields s is.process ∙ has.next_is_due s.process s.round is.process is.positive less;
        decides = λ v it. let at = decision_is spec fields has s.process s.round v is.process it in (asks_are spec fields s is.process ∙ at.0, at.1);
      };
  compare = λ s t one other.
      let first = passed_of_run spec fields (is_passed spec fields) s one in
      let second = passed_of_run spec fields (is_passed spec fields) t other in
      has.snapshots_compare s.process s.round t.process t.round first.process first.positive first.within (fixed s first) second.process second.positive second.within (fixed t second);
  rounds = rounds_within spec fields has;
  behind = λ p r low pos less. gone_beyond spec fields p r less;
  begins = begins_run spec fields has;
}
  where
    fixed : (s : Snapshot) → IsPassed (is_passed spec fields) (processes spec) spec.rounds s → IsFixedAt spec fields s.process s.round
    fixed s is = has.passed_is_fixed s.process s.round is.process is.positive is.is

-- the same of all whose agreements are fixed
pub is_of_fixed : (spec : RoomSpec) (fields : Fields) → HasAgreed spec fields → IsOfPassed (run_spec spec fields) (fixed_source_of spec fields) (is_fixed spec fields)
is_of_fixed spec fields has = record {
  order = order_run spec fields (is_fixed spec fields);
  known = λ s there.
      let is = passed_of_run spec fields (is_fixed spec fields) s there in
      record {
        width = length-map-range_with_len _ 0 (processes spec) ∙ sym (processes_run spec fields);
        own = has.own_entry_is_exact s.process s.round is.process is.positive is.within (fixed s is);
        before = λ p r low pos less. beyond_fixed p r (low_of_run spec fields p low) pos (let most = has.row_is_within s.process s.round p is.process is.positive is.within (fixed s is) (low_of_run spec fields p low) in omega arith);
        shows = λ p low. has.row_is_within s.process s.round p is.process is.positive is.within (fixed s is) (low_of_run spec fields p low);
        goes_on = λ less. asks_are spec fields s is.process ∙ has.next_is_due s.process s.round is.process is.positive less;
        decides = λ v it. let at = decision_is spec fields has s.process s.round v is.process it in (asks_are spec fields s is.process ∙ at.0, at.1);
      };
  compare = λ s t one other.
      let first = passed_of_run spec fields (is_fixed spec fields) s one in
      let second = passed_of_run spec fields (is_fixed spec fields) t other in
      has.snapshots_compare s.process s.round t.process t.round first.process first.positive first.within (fixed s first) second.process second.positive second.within (fixed t second);
  rounds = rounds_within spec fields has;
  behind = λ p r low pos less. beyond_fixed p r (low_of_run spec fields p low) pos less;
  begins = begins_run spec fields has;
}
  where
    fixed : (s : Snapshot) → IsPassed (is_fixed spec fields) (processes spec) spec.rounds s → IsFixedAt spec fields s.process s.round
    fixed s is = fixed_of spec fields s.process s.round is.is

    beyond_fixed : (p r : ℕ) → p < processes spec → 1 ≤ r → r < greatest_step spec fields p → is_fixed spec fields p r ≡ true
    beyond_fixed p r low pos less = test_of spec fields p r (has.passed_is_fixed p r low pos (gone_beyond spec fields p r less))

pub fields_run : (spec : RoomSpec) (fields : Fields) → HasAgreed spec fields → IsRun (run_spec spec fields) (history_of spec fields)
fields_run spec fields has =
    subst (IsRun (run_spec spec fields)) (history_run spec fields (source_of spec fields))
    (passed_is_run (run_spec spec fields) (source_of spec fields) (is_passed spec fields) (is_of_passed spec fields has))

-- in an ordinary room
pub ordinary_fields_run : (spec : RoomSpec) (fields : Fields) → is_reduction spec ≡ false → HasAgreed spec fields → IsRun spec (history_of spec fields)
ordinary_fields_run spec fields is has = subst (λ (s : RoomSpec). IsRun s (history_of spec fields)) (ordinary_run spec fields is) (fields_run spec fields has)

-- in a reduction it is a run from the simulators' own inputs
pub reduction_fields_run : (spec : RoomSpec) (fields : Fields) → is_reduction spec ≡ true → HasAgreed spec fields → IsRunOf spec (history_of spec fields)
reduction_fields_run spec fields is has =
    let same = reduction_run spec fields is in
    record {
      inputs = inputs spec fields;
      from_own = subst (λ (s : RoomSpec). AreFromOwn spec s.inputs) same (run_from_own spec fields has is);
      run = subst (λ (s : RoomSpec). IsRun s (history_of spec fields)) same (fields_run spec fields has);
    }
