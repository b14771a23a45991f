-- As a room goes on, what each process does in its linearization begins what it does later.
use Rattle.std.proofs.Common.{◌≡◌, ℕ, zero, suc, ◌+◌, ◌-◌, ◌<◌, ◌≤◌, Bool, true, cond, eqb, List, [], ◌∷◌, ◌++◌, length, map, get_or, Option, Some, None, refl, sym, ap, ◌∙◌, subst, arith, inl, inr, append-nil, append_assoc}
use Rattle.std.specs.Prelude.{slice_index, unwrap_or}
use Rattle.std.specs.List.{range_with_len}
use Rattle.protocol_lang.specs.Meaning.{first_value}
use Rattle.std.proofs.lemmas.Bool.{cases_eq, cases_lt, cases_Bool, eq-eqb, eqb-true}
use Rattle.protocol_lang.specs.declared.meaning.Action.{Action}
use Rattle.protocol_lang.specs.declared.meaning.Action.TheVariants as actions
use Rattle.room_spec.specs.Rooms.{RoomSpec, IsWithinLimits, is_reduction, processes}
use Rattle.sim_memory.specs.Steps.{row_of}
use Rattle.sim_memory.proofs.CallerLemmas.{row_length}
use Rattle.transcript.specs.declared.event.Event.{Event}
use Rattle.transcript.specs.declared.event.Event.TheVariants.{Write, Snap}
use Rattle.room_core.specs.Calls.{RoomState}
use Rattle.room_core.specs.Fields.{Fields, StepMap}
use Rattle.room_core.specs.Reading.{AreFieldsOf}
use Rattle.room_core.specs.Rooms.{ScheduleEvent}
use Rattle.room_core.specs.Agreements.{HasAgreed, asks, decided_in, greatest_step, input_at, is_fixed, is_input_known, row_at, shown_of, view_at, written}
use Rattle.room_core.proofs.CallerLemmas.{GoesOn, fixed_of, goes_on, rooms_agree, written_known}
use Rattle.ws_history.specs.Histories.{Source, decided, history_from, shown, shown_row}
use Rattle.ws_history.specs.Sources.{fixed_source_of, source_of}
use Rattle.ws_history.specs.Linearizations.{Begins, events_of, linearized}
use Rattle.ws_history.proofs.FixedHistories.{fixed_is, lasts, round_fixed, round_there_if, rounds_in, rounds_least, rounds_most}
use Rattle.ws_history.proofs.Linearized.{linearized_fixed}
use Rattle.ws_history.proofs.OwnEvents.{decision_behind, level_told, open_of, rounds_of, told}
use Rattle.ws_history.proofs.RunSpecs.{agreed_is, ordinary_input}
use Rattle.ws_history.proofs.SourceIs.{decided_is}
use Rattle.ws_history.proofs.Walking.{map_same}

-- ---- beginnings

begins_same : (one other : List Event) → other ≡ one → Begins one other
begins_same one other is = record { rest = []; is = is ∙ sym (append-nil one) }

begins_more : (one more : List Event) → Begins one (one ++ more)
begins_more one more = record { rest = more; is = refl }

begins_twice : (one two three : List Event) → Begins one two → Begins two three → Begins one three
begins_twice one two three first second = record {
  rest = first.rest ++ second.rest;
  is = second.is ∙ ap (λ (l : List Event). l ++ second.rest) first.is ∙ append_assoc one first.rest second.rest;
}

rounds_begin : (src : Source) (p c d : ℕ) → Begins (rounds_of src p c) (rounds_of src p (c + d))
rounds_begin src p c zero = begins_same (rounds_of src p c) (rounds_of src p (c + zero)) (let none : c + zero ≡ c = omega arith in ap (rounds_of src p) none)
rounds_begin src p c (suc d) =
    let next : suc (c + d) ≡ c + suc d = omega arith in
    subst (λ (k : ℕ). Begins (rounds_of src p c) (rounds_of src p k)) next
    (begins_twice (rounds_of src p c) (rounds_of src p (c + d)) (rounds_of src p (suc (c + d))) (rounds_begin src p c d)
    (begins_more (rounds_of src p (c + d)) (Write p (src.written p (suc (c + d))) ∷ Snap p (record { items = shown_row src (record { process = p; round = suc (c + d) }) }) ∷ [])))

rounds_to : (src : Source) (p c e : ℕ) → c ≤ e → Begins (rounds_of src p c) (rounds_of src p e)
rounds_to src p c e within = let same : c + (e - c) ≡ e = omega arith in subst (λ (k : ℕ). Begins (rounds_of src p c) (rounds_of src p k)) same (rounds_begin src p c (e - c))

-- with one write more
open_begins : (src : Source) (p c e : ℕ) → c < e → Begins (rounds_of src p c ++ Write p (src.written p (suc c)) ∷ []) (rounds_of src p e)
open_begins src p c e within =
    begins_twice (rounds_of src p c ++ Write p (src.written p (suc c)) ∷ []) (rounds_of src p (suc c)) (rounds_of src p e)
    (record { rest = Snap p (record { items = shown_row src (record { process = p; round = suc c }) }) ∷ []; is = sym (append_assoc (rounds_of src p c) (Write p (src.written p (suc c)) ∷ []) (Snap p (record { items = shown_row src (record { process = p; round = suc c }) }) ∷ [])) })
    (rounds_to src p (suc c) e (omega (arith, within)))

open_is : (src : Source) (p w c : ℕ) (last : List Event) → w ≡ suc c → told src p w c last ≡ (rounds_of src p c ++ Write p (src.written p (suc c)) ∷ []) ++ last
open_is src p w c last more =
    ap (λ (b : Bool). (rounds_of src p c ++ open_of src p b w) ++ last) (Rattle.std.proofs.lemmas.Bool.ne_eqb w c (λ e. omega (arith, more, e)))
    ∙ ap (λ (k : ℕ). (rounds_of src p c ++ Write p (src.written p k) ∷ []) ++ last) more

same_write : (x y : ℕ) → ◌≡◌ {A = Action} (actions.Write x) (actions.Write y) → x ≡ y
same_write x y is = cc

no_write : (x y : ℕ) → ◌≡◌ {A = Action} (actions.Decide x) (actions.Write y) → ⊥
no_write x y is = cc

-- ---- two fields, the first of which go on to the second

-- a process of which a write was counted has its input
abbrev HasInputs : RoomSpec → Fields → Type 0
HasInputs spec fields = (p : ℕ) → p < processes spec → is_reduction spec ≡ true → 1 ≤ greatest_step spec fields p → is_input_known spec fields p ≡ true

module _ (spec : RoomSpec) (F G : Fields) (has : HasAgreed spec F) (has' : HasAgreed spec G) (goes : GoesOn spec F G) (known : HasInputs spec F) where
  -- which stays
  input_same : (p : ℕ) → p < processes spec → 1 ≤ greatest_step spec F p → input_at spec G p ≡ input_at spec F p
  input_same p low some = elim (cases_Bool (is_reduction spec)) [
    | inl is ↦
        let then = agreed_is spec F p (known p low is some) in
        ap (λ (o : Option ℕ). unwrap_or o (slice_index spec.inputs p)) (goes.inputs p (F.value (shown_of spec F p 0) p 0) low then ∙ sym then)
    | inr is ↦ ordinary_input spec G is p ∙ sym (ordinary_input spec F is p)
  ]

  abbrev one : Source
  one = source_of spec F

  abbrev two : Source
  two = source_of spec G

  written_same : (p r : ℕ) → p < processes spec → 1 ≤ r → r ≤ greatest_step spec F p → written spec G p r ≡ written spec F p r
  written_same p zero low first most = absurd (omega (arith, first))
  written_same p (suc zero) low first most =
      let more = goes.counted p low in
      has'.first_is_due p low (omega (arith, most, more))
      ∙ ap (λ (x : ℕ). first_value spec.protocol x p (processes spec)) (input_same p low (omega (arith, most)))
      ∙ sym (has.first_is_due p low (omega (arith, most)))
  written_same p (suc (suc q)) low first most =
      let more = goes.counted p low in
      let fixed = Rattle.room_core.proofs.CallerLemmas.test_of spec F p (suc q) (has.passed_is_fixed p (suc q) low (omega arith) (Rattle.ws_history.proofs.SourceIs.gone_beyond spec F p (suc q) (omega (arith, most)))) in
      let before = has.next_is_due p (suc q) low (omega arith) (omega (arith, most)) in
      let after = has'.next_is_due p (suc q) low (omega arith) (omega (arith, most, more)) in
      let next : suc q + 1 ≡ suc (suc q) = omega arith in
      subst (λ (k : ℕ). written spec G p k ≡ written spec F p k) next
      (same_write (written spec G p (suc q + 1)) (written spec F p (suc q + 1)) (sym after ∙ goes.asks p (suc q) (omega arith) fixed ∙ before))

  shown_same : (p r : ℕ) → p < processes spec → r ≤ greatest_step spec F p → shown two p r ≡ shown one p r
  shown_same p zero low most = refl
  shown_same p (suc r) low most = ap (λ (v : ℕ). cond (eqb (suc r) 0) None (Some v)) (written_same p (suc r) low (omega arith) most)

  row_same : (p r : ℕ) → 1 ≤ r → is_fixed spec F p r ≡ true → row_at spec G p r ≡ row_at spec F p r
  row_same p r first fixed = ap (λ (view : StepMap). row_of spec.simulators (processes spec) view) (goes.view p r first fixed)

  shown_row_same : (p r : ℕ) → p < processes spec → 1 ≤ r → r ≤ spec.rounds → is_fixed spec F p r ≡ true → shown_row two (record { process = p; round = r }) ≡ shown_row one (record { process = p; round = r })
  shown_row_same p r low first last fixed =
      ap (λ (row : List ℕ). map (λ q. shown two q (get_or row q 0)) (range_with_len 0 (length row))) (row_same p r first fixed)
      ∙ map_same (λ (q : ℕ). shown two q (get_or (row_at spec F p r) q 0)) (λ (q : ℕ). shown one q (get_or (row_at spec F p r) q 0)) 0 (length (row_at spec F p r))
      (λ q least below.
      let long = row_length spec.simulators (processes spec) (view_at spec F p r) in
      let low' : q < processes spec = omega (arith, below, long) in
      shown_same q (get_or (row_at spec F p r) q 0) low' (has.row_is_within p r q low first last (fixed_of spec F p r fixed) low'))

  module _ (p : ℕ) (low : p < processes spec) where
    abbrev g : ℕ
    g = greatest_step spec F p

    abbrev c : ℕ
    c = rounds_in spec F has p low

    abbrev h : ℕ
    h = greatest_step spec G p

    abbrev e : ℕ
    e = rounds_in spec G has' p low

    most : rounds_in spec F has p low ≤ greatest_step spec F p
    most = rounds_most spec F has p low

    few : greatest_step spec F p ≤ spec.rounds
    few = has.steps_are_within p low

    same_rounds : (k : ℕ) → k ≤ rounds_in spec F has p low → rounds_of two p k ≡ rounds_of one p k
    same_rounds zero within = refl
    same_rounds (suc k) within =
        let m = most in
        let n = few in
        ap (λ (l : List Event). l ++ Write p (two.written p (suc k)) ∷ Snap p (record { items = shown_row two (record { process = p; round = suc k }) }) ∷ []) (same_rounds k (omega (arith, within)))
        ∙ ap (λ (v : ℕ). rounds_of one p k ++ Write p v ∷ Snap p (record { items = shown_row two (record { process = p; round = suc k }) }) ∷ []) (written_same p (suc k) low (omega arith) (omega (arith, within, m)))
        ∙ ap (λ (row : List (Option ℕ)). rounds_of one p k ++ Write p (one.written p (suc k)) ∷ Snap p (record { items = row }) ∷ [])
        (shown_row_same p (suc k) low (omega arith) (omega (arith, within, m, n)) (round_fixed spec F has p low (suc k) (omega arith) within))

    grown : rounds_in spec F has p low ≤ rounds_in spec G has' p low
    grown = elim (cases_lt 0 (rounds_in spec F has p low)) [
      | inr none ↦ omega (arith, none)
      | inl some ↦
          let m = most in
          let n = few in
          round_there_if spec G has' p low (rounds_in spec F has p low) (omega (arith, some)) (omega (arith, m, n))
          (goes.fixed p (rounds_in spec F has p low) (round_fixed spec F has p low (rounds_in spec F has p low) (omega (arith, some)) (omega arith)))
    ]

    abbrev before : List Event
    before = told one p (greatest_step spec F p) (rounds_in spec F has p low) (decided p (decision_behind one p (rounds_in spec F has p low)))

    abbrev after : List Event
    after = told two p (greatest_step spec G p) (rounds_in spec G has' p low) (decided p (decision_behind two p (rounds_in spec G has' p low)))

    -- with no decision
    undecided : decision_behind one p (rounds_in spec F has p low) ≡ None → Begins before after
    undecided none = elim (cases_eq (greatest_step spec F p) (rounds_in spec F has p low)) [
      | inl level ↦
          let here : before ≡ rounds_of two p c = ap (λ (o : Option ℕ). told one p g c (decided p o)) none ∙ level_told one p g c [] (sym level) ∙ append-nil (rounds_of one p c) ∙ sym (same_rounds c (omega arith)) in
          subst (λ (l : List Event). Begins l after) (sym here)
          (begins_twice (rounds_of two p c) (rounds_of two p e) after (rounds_to two p c e grown)
          (record { rest = open_of two p (eqb h e) h ++ decided p (decision_behind two p e); is = append_assoc (rounds_of two p e) (open_of two p (eqb h e) h) (decided p (decision_behind two p e)) }))
      | inr apart ↦
          let m = most in
          let m' = rounds_least spec F has p low in
          let next : g ≡ suc c = omega (arith, apart, m, m') in
          let here : before ≡ rounds_of two p c ++ Write p (two.written p (suc c)) ∷ [] =
          ap (λ (o : Option ℕ). told one p g c (decided p o)) none ∙ open_is one p g c [] next ∙ append-nil (rounds_of one p c ++ Write p (one.written p (suc c)) ∷ [])
          ∙ ap (λ (l : List Event). l ++ Write p (one.written p (suc c)) ∷ []) (sym (same_rounds c (omega arith)))
          ∙ ap (λ (v : ℕ). rounds_of two p c ++ Write p v ∷ []) (sym (written_same p (suc c) low (omega arith) (omega (arith, next)))) in
          subst (λ (l : List Event). Begins l after) (sym here) (elim (cases_lt (rounds_in spec F has p low) (rounds_in spec G has' p low)) [
            | inl less ↦
                begins_twice (rounds_of two p c ++ Write p (two.written p (suc c)) ∷ []) (rounds_of two p e) after (open_begins two p c e less)
                (record { rest = open_of two p (eqb h e) h ++ decided p (decision_behind two p e); is = append_assoc (rounds_of two p e) (open_of two p (eqb h e) h) (decided p (decision_behind two p e)) })
            | inr no_more ↦
                let more = goes.counted p low in
                let up = grown in
                let most' = rounds_least spec G has' p low in
                let same : e ≡ c = omega (arith, no_more, up) in
                let next' : h ≡ suc c = omega (arith, next, more, most', same) in
                record {
                  rest = decided p (decision_behind two p e);
                  is = ap (λ (k : ℕ). told two p h k (decided p (decision_behind two p e))) same ∙ open_is two p h c (decided p (decision_behind two p e)) next';
                }
          ])
    ]

    -- with a decision
    at_last : (v : ℕ) → decision_behind one p (rounds_in spec F has p low) ≡ Some v → (greatest_step spec F p ≡ rounds_in spec F has p low) × (1 ≤ rounds_in spec F has p low) × (decided_in spec F p ≡ Some v)
    at_last v is = by_round (rounds_in spec F has p low) is
      where
        by_round : (k : ℕ) → decision_behind one p k ≡ Some v → (greatest_step spec F p ≡ k) × (1 ≤ k) × (decided_in spec F p ≡ Some v)
        by_round zero at = absurd (let wrong : None ≡ Some v = at in cc)
        by_round (suc k) at =
            let all = lasts spec F p (suc k) v at in
            (all, omega arith, sym (ap (λ (b : Bool). cond b (decided_in spec F p) None) (eq-eqb (greatest_step spec F p) (suc k) all)) ∙ at)

    ended : (v : ℕ) → decision_behind one p (rounds_in spec F has p low) ≡ Some v → Begins before after
    ended v is =
        let at = at_last v is in
        let fixed = round_fixed spec F has p low c at.1 (omega arith) in
        let all : c ≡ g = sym at.0 in
        let decides : asks spec F p c ≡ actions.Decide v = subst (λ (k : ℕ). asks spec F p k ≡ actions.Decide v) at.0 (decided_is spec F has p v low at.2) in
        let decided' = goes.decided p v low at.2 in
        let more = goes.counted p low in
        let stays : h ≡ g = elim (cases_lt (greatest_step spec F p) (greatest_step spec G p)) [
          | inr no_more ↦ omega (arith, no_more, more)
          | inl less ↦ absurd (no_write v (written spec G p (c + 1)) (sym decides ∙ sym (goes.asks p c at.1 fixed) ∙ has'.next_is_due p c low at.1 (omega (arith, less, all))))
        ] in
        let up = grown in
        let most' = rounds_most spec G has' p low in
        let same : e ≡ c = omega (arith, up, most', stays, all) in
        let behind : decision_behind two p c ≡ Some v = behind_at c at.1 (omega (arith, stays, all)) decided' in
        begins_same before after
        (ap (λ (k : ℕ). told two p h k (decided p (decision_behind two p k))) same
        ∙ ap (λ (o : Option ℕ). told two p h c (decided p o)) behind
        ∙ level_told two p h c (decided p (Some v)) (omega (arith, stays, all))
        ∙ ap (λ (l : List Event). l ++ decided p (Some v)) (same_rounds c (omega arith))
        ∙ sym (level_told one p g c (decided p (Some v)) all)
        ∙ ap (λ (o : Option ℕ). told one p g c (decided p o)) (sym is))
      where
        behind_at : (k : ℕ) → 1 ≤ k → greatest_step spec G p ≡ k → {v : ℕ} → decided_in spec G p ≡ Some v → decision_behind two p k ≡ Some v
        behind_at zero first all at = absurd (omega (arith, first))
        behind_at (suc k) first all at = ap (λ (b : Bool). cond b (decided_in spec G p) None) (eq-eqb (greatest_step spec G p) (suc k) all) ∙ at

    by_decision : (o : Option ℕ) → decision_behind one p (rounds_in spec F has p low) ≡ o → Begins before after
    by_decision None none = undecided none
    by_decision (Some v) is = ended v is

    pub fixed_begins : Begins (events_of p (history_from spec (fixed_source_of spec F))) (events_of p (history_from spec (fixed_source_of spec G)))
    fixed_begins =
        let it = by_decision (decision_behind one p (rounds_in spec F has p low)) refl in
        record { rest = it.rest; is = fixed_is spec G has' p low ∙ it.is ∙ ap (λ (l : List Event). l ++ it.rest) (sym (fixed_is spec F has p low)) }

-- ---- two rooms

pub linearized_begins : (room later : RoomState) (fields final : Fields) → IsWithinLimits room.spec → (are : AreFieldsOf room fields) → (ares : AreFieldsOf later final) → room.spec ≡ later.spec → (more : List ScheduleEvent) → ares.run.schedule ≡ are.run.schedule ++ more
    → (p : ℕ) → p < processes room.spec → Begins (events_of p (linearized room.spec are.run.schedule fields)) (events_of p (linearized later.spec ares.run.schedule final))
linearized_begins room later fields final limits are ares same more is p low =
    let limits' = subst IsWithinLimits same limits in
    let low' : p < processes later.spec = subst (λ (s : RoomSpec). p < processes s) same low in
    let has : HasAgreed later.spec fields = subst (λ (s : RoomSpec). HasAgreed s fields) same (rooms_agree room fields limits are) in
    let known : HasInputs later.spec fields = subst (λ (s : RoomSpec). HasInputs s fields) same (λ q within reduction some. written_known room fields limits are q reduction some) in
    let it = fixed_begins later.spec fields final has (rooms_agree later final limits' ares) (goes_on room later fields final limits are ares same more is) known p low' in
    let first = linearized_fixed room fields limits are p low ∙ ap (λ (s : RoomSpec). events_of p (history_from s (fixed_source_of s fields))) same in
    record { rest = it.rest; is = linearized_fixed later final limits' ares p low' ∙ it.is ∙ ap (λ (l : List Event). l ++ it.rest) (sym first) }
