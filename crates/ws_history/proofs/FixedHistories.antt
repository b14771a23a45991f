-- The history of a room begins, process by process, the history of all its agreements that are fixed.
use Rattle.std.proofs.Common.{◌≡◌, ◌≢◌, cond, ℕ, zero, suc, ◌+◌, ◌<◌, ◌≤◌, Bool, true, eqb, List, [], ◌∷◌, ◌++◌, map, Contains, Option, refl, sym, ap, ap₂, ◌∙◌, subst, arith, inl, inr}
use Rattle.std.proofs.lemmas.Bool.{and_from, cases_eq, eq-eqb, eqb-true, cases_Bool, or_right}
use Rattle.room_spec.specs.Rooms.{RoomSpec, processes}
use Rattle.transcript.specs.declared.event.Event.{Event}
use Rattle.transcript.specs.declared.event.Event.TheVariants.{Write, Snap}
use Rattle.room_core.specs.Fields.{Fields}
use Rattle.room_core.specs.Agreements.{HasAgreed, decided_in, greatest_step, is_fixed, is_passed, outs_at, row_at, run_spec}
use Rattle.room_core.specs.Points.{Point, Writes, Snaps, Decides}
use Rattle.room_core.proofs.CallerLemmas.{test_of}
use Rattle.ws_history.specs.Histories.{Snapshot, Source, IsSource, decided, history_from, shown_row}
use Rattle.ws_history.specs.Orders.{all_passed}
use Rattle.ws_history.specs.Sources.{decision_after, fixed_source_of, source_of, history_of}
use Rattle.ws_history.specs.Linearizations.{LackAtMostASnapshot, event_of, events_before, events_of}
use Rattle.ws_history.proofs.Order.{last_is, last_round, round_least, round_most, round_there, snapshot_at}
use Rattle.ws_history.proofs.Sorting.{from_order, to_order, from_passed, to_passed}
use Rattle.ws_history.proofs.PassedSources.{is_source}
use Rattle.ws_history.proofs.OwnEvents.{decision_behind, history_told, open_of, rounds_of, told, told_snap}
use Rattle.ws_history.proofs.RunSpecs.{history_run, low_in_run}
use Rattle.ws_history.proofs.SourceIs.{found_in, gone_beyond, is_of_fixed, is_of_passed, one_of}
use Rattle.ws_history.proofs.Deciders.{out_found}

-- ---- the same events by either source

same_event : (spec : RoomSpec) (fields : Fields) (point : Point) → event_of (fixed_source_of spec fields) point ≡ event_of (source_of spec fields) point
same_event spec fields (Writes p r) = refl
same_event spec fields (Snaps p r) = refl
same_event spec fields (Decides p decision) = refl

pub map_events : (spec : RoomSpec) (fields : Fields) (points : List Point) → map (event_of (fixed_source_of spec fields)) points ≡ map (event_of (source_of spec fields)) points
map_events spec fields [] = refl
map_events spec fields (point ∷ points) = ap₂ (λ (x : Event) (l : List Event). x ∷ l) (same_event spec fields point) (map_events spec fields points)

pub same_before : (one other : ℕ → List Event) (time : ℕ) → ((t : ℕ) → one t ≡ other t) → events_before one time ≡ events_before other time
same_before one other zero same = refl
same_before one other (suc time) same = ap₂ (λ (l l' : List Event). l ++ l') (same_before one other time same) (same time)

same_rounds_of : (spec : RoomSpec) (fields : Fields) (p c : ℕ) → rounds_of (fixed_source_of spec fields) p c ≡ rounds_of (source_of spec fields) p c
same_rounds_of spec fields p zero = refl
same_rounds_of spec fields p (suc c) = ap (λ (l : List Event). l ++ Write p ((source_of spec fields).written p (suc c)) ∷ Snap p (record { items = shown_row (source_of spec fields) (record { process = p; round = suc c }) }) ∷ []) (same_rounds_of spec fields p c)

same_open : (spec : RoomSpec) (fields : Fields) (p : ℕ) (b : Bool) (w : ℕ) → open_of (fixed_source_of spec fields) p b w ≡ open_of (source_of spec fields) p b w
same_open spec fields p true w = refl
same_open spec fields p Bool.false w = refl

same_told : (spec : RoomSpec) (fields : Fields) (p w c : ℕ) (last : List Event) → told (fixed_source_of spec fields) p w c last ≡ told (source_of spec fields) p w c last
same_told spec fields p w c last = ap₂ (λ (l l' : List Event). (l ++ l') ++ last) (same_rounds_of spec fields p c) (same_open spec fields p (eqb w c) w)

same_behind : (spec : RoomSpec) (fields : Fields) (p c : ℕ) → decision_behind (fixed_source_of spec fields) p c ≡ decision_behind (source_of spec fields) p c
same_behind spec fields p zero = refl
same_behind spec fields p (suc c) = refl

pub lasts : (spec : RoomSpec) (fields : Fields) (p r v : ℕ) → decision_after spec fields p r ≡ Option.Some v → greatest_step spec fields p ≡ r
lasts spec fields p r v is = elim (cases_Bool (eqb (greatest_step spec fields p) r)) [
  | inl same ↦ eqb-true (greatest_step spec fields p) r same
  | inr apart ↦ absurd (let none = rw apart at is in cc)
]

module _ (spec : RoomSpec) (fields : Fields) (has : HasAgreed spec fields) (p : ℕ) (low : p < processes spec) where
  abbrev src : Source
  src = source_of spec fields

  abbrev fixed : Source
  fixed = fixed_source_of spec fields

  abbrev g : ℕ
  g = greatest_step spec fields p

  -- the ordinary room of the run
  abbrev run : RoomSpec
  run = run_spec spec fields

  low_there : p < processes (run_spec spec fields)
  low_there = low_in_run spec fields p low

  source : IsSource (run_spec spec fields) (source_of spec fields)
  source = is_source (run_spec spec fields) (source_of spec fields) (is_passed spec fields) (is_of_passed spec fields has)

  source_fixed : IsSource (run_spec spec fields) (fixed_source_of spec fields)
  source_fixed = is_source (run_spec spec fields) (fixed_source_of spec fields) (is_fixed spec fields) (is_of_fixed spec fields has)

  -- what was passed is fixed
  more : (s : Snapshot) → Contains (source_of spec fields).order s → Contains (fixed_source_of spec fields).order s
  more s there =
      let passed = from_passed (is_passed spec fields) (processes spec) spec.rounds s (from_order (row_at spec fields) (all_passed (is_passed spec fields) (processes spec) spec.rounds) s there) in
      to_order (row_at spec fields) (all_passed (is_fixed spec fields) (processes spec) spec.rounds) s
      (to_passed (is_fixed spec fields) (processes spec) spec.rounds s
      (record { process = passed.process; positive = passed.positive; within = passed.within; is = test_of spec fields s.process s.round (has.passed_is_fixed s.process s.round passed.process passed.positive passed.is) }))

  grows : last_round (source_of spec fields).order p ≤ last_round (fixed_source_of spec fields).order p
  grows = round_least (source_of spec fields).order p (last_round (fixed_source_of spec fields).order p) (λ t there same.
      let most = round_most (fixed_source_of spec fields).order t (more t there) in
      subst (λ (q : ℕ). t.round ≤ last_round (fixed_source_of spec fields).order q) same most)

  history_is : events_of p (history_of spec fields) ≡ told src p g (last_round src.order p) (decided p (decision_behind src p (last_round src.order p)))
  history_is = ap (events_of p) (sym (history_run spec fields src)) ∙ history_told run src source (lasts spec fields) p low_there

  pub fixed_is : events_of p (history_from spec (fixed_source_of spec fields)) ≡ told src p g (last_round fixed.order p) (decided p (decision_behind src p (last_round fixed.order p)))
  fixed_is =
      ap (events_of p) (sym (history_run spec fields fixed)) ∙ history_told run fixed source_fixed (lasts spec fields) p low_there
      ∙ same_told spec fields p g (last_round fixed.order p) (decided p (decision_behind fixed p (last_round fixed.order p)))
      ∙ ap (λ (o : Option ℕ). told src p g (last_round fixed.order p) (decided p o)) (same_behind spec fields p (last_round fixed.order p))

  -- how many rounds it has, and that each is fixed
  abbrev pub rounds_in : ℕ
  rounds_in = last_round (fixed_source_of spec fields).order p

  pub rounds_most : last_round (fixed_source_of spec fields).order p ≤ greatest_step spec fields p
  rounds_most = let last = last_is run fixed source_fixed in let b = last.behind p in let d = last.grows p low_there in omega (arith, b, d)

  pub rounds_least : greatest_step spec fields p ≤ last_round (fixed_source_of spec fields).order p + 1
  rounds_least = (last_is run fixed source_fixed).one_more p low_there

  pub round_fixed : (r : ℕ) → 1 ≤ r → r ≤ last_round (fixed_source_of spec fields).order p → is_fixed spec fields p r ≡ true
  round_fixed r first within = elim (cases_eq r (last_round (fixed_source_of spec fields).order p)) [
    | inl same ↦
        let there = round_there (fixed_source_of spec fields).order p (omega (arith, first, same)) in
        let it = from_passed (is_fixed spec fields) (processes spec) spec.rounds (snapshot_at p (last_round (fixed_source_of spec fields).order p)) (from_order (row_at spec fields) (all_passed (is_fixed spec fields) (processes spec) spec.rounds) (snapshot_at p (last_round (fixed_source_of spec fields).order p)) there) in
        subst (λ (k : ℕ). is_fixed spec fields p k ≡ true) (sym same) it.is
    | inr apart ↦ let most = rounds_most in test_of spec fields p r (has.passed_is_fixed p r low first (gone_beyond spec fields p r (omega (arith, within, apart, most))))
  ]

  -- whichever is fixed is there
  pub round_there_if : (r : ℕ) → 1 ≤ r → r ≤ spec.rounds → is_fixed spec fields p r ≡ true → r ≤ last_round (fixed_source_of spec fields).order p
  round_there_if r first last is =
      round_most (fixed_source_of spec fields).order (snapshot_at p r)
      (to_order (row_at spec fields) (all_passed (is_fixed spec fields) (processes spec) spec.rounds) (snapshot_at p r)
      (to_passed (is_fixed spec fields) (processes spec) spec.rounds (snapshot_at p r) (record { process = low; positive = first; within = last; is = is })))

  not_last : (c : ℕ) → c < greatest_step spec fields p → (o : Option ℕ) → decision_behind (source_of spec fields) p c ≡ o → o ≡ Option.None
  not_last c less Option.None is = refl
  not_last zero less (Option.Some v) is = sym is
  not_last (suc c) less (Option.Some v) is = absurd (let at = lasts spec fields p (suc c) v is in omega (arith, at, less))

  -- where the last snapshot was not passed there is no decision
  no_end : last_round (source_of spec fields).order p < greatest_step spec fields p → (k : ℕ) (o : Option ℕ) → decision_behind (source_of spec fields) p k ≡ o → o ≡ Option.None
  no_end less zero o is = sym is
  no_end less (suc k) Option.None is = refl
  no_end less (suc k) (Option.Some v) is =
      let all = lasts spec fields p (suc k) v is in
      let decided_is : decided_in spec fields p ≡ Option.Some v = sym (ap (λ (b : Bool). cond b (decided_in spec fields p) Option.None) (eq-eqb (greatest_step spec fields p) (suc k) all)) ∙ is in
      let found = found_in (outs_at spec fields p) v decided_is in
      let one = one_of (λ (i : ℕ). fields.out i p) spec.simulators found.0 found.1 in
      let some : fields.out one.0 p ≢ 0 = λ none. found.2 (sym one.2 ∙ none) in
      let passes : is_passed spec fields p (greatest_step spec fields p) ≡ true = or_right _ _ (and_from _ _ (out_found spec fields one.0 p one.1 some) (eq-eqb (greatest_step spec fields p) (greatest_step spec fields p) refl)) in
      let there = round_most (source_of spec fields).order (snapshot_at p (greatest_step spec fields p))
      (to_order (row_at spec fields) (all_passed (is_passed spec fields) (processes spec) spec.rounds) (snapshot_at p (greatest_step spec fields p))
      (to_passed (is_passed spec fields) (processes spec) spec.rounds (snapshot_at p (greatest_step spec fields p)) (record { process = low; positive = omega (arith, all); within = has.steps_are_within p low; is = passes }))) in
      absurd (omega (arith, there, less))

  pub history_begins : LackAtMostASnapshot p (events_of p (history_of spec fields)) (events_of p (history_from spec (fixed_source_of spec fields)))
  history_begins = elim (cases_eq (last_round src.order p) (last_round fixed.order p)) [
    | inl same ↦ inl (fixed_is ∙ ap (λ (c : ℕ). told src p g c (decided p (decision_behind src p c))) (sym same) ∙ sym history_is)
    | inr apart ↦
        let some = grows in
        let last = last_is run src source in
        let last' = last_is run fixed source_fixed in
        let a = last.one_more p low_there in
        let b = last'.behind p in
        let d = last'.grows p low_there in
        let next : g ≡ last_round src.order p + 1 = omega (arith, some, apart, a, b, d) in
        let all : last_round fixed.order p ≡ g = omega (arith, some, apart, a, b, d) in
        let snap : Event = Snap p (record { items = shown_row src (record { process = p; round = g }) }) in
        let opened : events_of p (history_of spec fields) ≡ told src p g (last_round src.order p) [] = history_is ∙ ap (λ (o : Option ℕ). told src p g (last_round src.order p) (decided p o)) (not_last (last_round src.order p) (omega (arith, next)) (decision_behind src p (last_round src.order p)) refl) in
        inr (
          snap,
          eq-eqb p p refl,
          fixed_is ∙ ap (λ (c : ℕ). told src p g c (decided p (decision_behind src p c))) all
              ∙ ap (λ (o : Option ℕ). told src p g g (decided p o)) (no_end (omega (arith, next)) g (decision_behind src p g) refl)
              ∙ sym (told_snap src p g (last_round src.order p) next)
              ∙ ap (λ (l : List Event). l ++ snap ∷ []) (sym opened),
        )
  ]
