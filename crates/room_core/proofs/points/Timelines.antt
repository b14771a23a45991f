-- What takes effect at each step of a schedule, by what it comes to in the end.
use Rattle.std.proofs.Common.{◌≡◌, ◌≢◌, ℕ, zero, suc, ◌+◌, ◌-◌, ◌<◌, ◌≤◌, Bool, true, false, not, eqb, List, [], ◌∷◌, length, map, find, Option, Some, None, inl, inr, refl, sym, ap, ◌∙◌, subst, arith}
use Rattle.std.specs.Prelude.{◌&&◌, ◌||◌, slice_get}
use Rattle.std.specs.List.{range_with_len, list_any}
use Rattle.std.proofs.lemmas.Bool.{cases_Bool, cases_lt, cases_eq, lt-ltb, le-ltb, eq-eqb, eqb-true, ne_eqb, and_parts}
use Rattle.std.proofs.lemmas.List.Folds.{list_any_at}
use Rattle.std.proofs.lemmas.List.FromFn.{length-map-range_with_len, get_or-map-range_with_len}
use mathlib.Core.Logic.{dite}
use native.Mathlib.Decide.{ℕ_discrete}
use Rattle.room_spec.specs.Rooms.{RoomSpec, processes}
use Rattle.sim_memory.proofs.CallerLemmas.{merged_at, merged_below, merged_same, row_at}
use Rattle.simulator.specs.declared.line.Line.{Line}
use Rattle.simulator.specs.declared.line.Line.TheVariants.{Raise, Snap, Out}
use Rattle.simulator.specs.Minds.{current_round}
use Rattle.room_core.specs.Rooms.{ScheduleEvent, steps, crashes}
use Rattle.room_core.specs.Fields.{Fields, changed}
use Rattle.room_core.specs.Moments.{fields_at}
use Rattle.room_core.specs.Agreements.{IsFixedAt, decided_in, greatest_step, has_out, is_out, is_fixed, outs_at, shown_of, view_at}
use Rattle.room_core.specs.Points.{Point, Writes, Snaps, Decides, IsFixedIn, points_on, points_by, points_at, is_read, read_time, reads_at}
use Rattle.room_core.specs.Timelines.{Timeline, timeline_of, IsTimeline, IsUnread, AreCounted, AreDecided, Moves, nothing, writes, snaps, decides}
use Rattle.room_core.specs.Tracks.{KeepsTrack}
use Rattle.room_core.proofs.fields.Effects.{Own, own_of, process_on, round_on, IsTurn, IsLineOf}
use Rattle.room_core.proofs.fields.Maps.{changed_here, changed_else}
use Rattle.room_core.proofs.agreements.Exact.{at_two}
use Rattle.room_core.proofs.agreements.Fixing.{fixed_has_least}
use Rattle.room_core.proofs.agreements.FixedTests.{fixed_of, test_of}
use Rattle.room_core.proofs.values.Entries.{or_zero}
use Rattle.room_core.proofs.values.Known.{IsKnown, IsDeciding, decided_last, no_write_after}
use Rattle.room_core.proofs.agreements.Lasting.{decided_out, out_decided}
use Rattle.room_core.proofs.moments.Moments.{IsHistory}
use Rattle.room_core.proofs.points.OwnMoves.{OwnMove, rests, counts, scanning, storing, own_move}
use Rattle.room_core.proofs.points.LastReads.{IsRead, IsReadAt, read_is}
use Rattle.room_core.proofs.points.Pointed.{IsPointed}
use Rattle.room_core.proofs.points.Passing.{IsEventOf, stepping, crashing, ArePassed, Lasts, lasts}

-- ---- counts and decisions of two fields

map_same : {A : Type 0} (f g : ℕ → A) (a n : ℕ) → ((p : ℕ) → a ≤ p → p < a + n → f p ≡ g p) → map f (range_with_len a n) ≡ map g (range_with_len a n)
map_same f g a zero same = refl
map_same {A = A} f g a (suc n) same =
    ap (λ (x : A). x ∷ map f (range_with_len (a + 1) n)) (same a (omega arith) (omega arith))
    ∙ ap (λ (l : List A). g a ∷ l) (map_same f g (a + 1) n (λ p low high. same p (omega arith) (omega arith)))

counted_most : (spec : RoomSpec) (before after : Fields) (p more : ℕ) → ((a : ℕ) → a < spec.simulators → after.step a p ≤ before.step a p + more) → greatest_step spec after p ≤ greatest_step spec before p + more
counted_most spec before after p more most = merged_below spec.simulators after.step p (greatest_step spec before p + more) (λ a below. let m = most a below in let e = merged_at spec.simulators before.step a p below in omega (arith, m, e))

pub counted_same : (spec : RoomSpec) (before after : Fields) (p : ℕ) → ((a : ℕ) → a < spec.simulators → after.step a p ≡ before.step a p) → greatest_step spec after p ≡ greatest_step spec before p
counted_same spec before after p same =
    let most = counted_most spec before after p 0 (λ a below. let e = same a below in omega (arith, e)) in
    let least = counted_most spec after before p 0 (λ a below. let e = same a below in omega (arith, e)) in
    omega (arith, most, least)

counted_more : (spec : RoomSpec) (before after : Fields) (p : ℕ) → ((a : ℕ) → a < spec.simulators → before.step a p ≤ after.step a p) → greatest_step spec before p ≤ greatest_step spec after p
counted_more spec before after p least = let most = counted_most spec after before p 0 (λ a below. let e = least a below in omega (arith, e)) in omega (arith, most)

pub out_same : (spec : RoomSpec) (before after : Fields) (p : ℕ) → ((a : ℕ) → a < spec.simulators → after.out a p ≡ before.out a p) → has_out spec after p ≡ has_out spec before p
out_same spec before after p same = ap (list_any is_out) (map_same (λ a. after.out a p) (λ a. before.out a p) 0 spec.simulators (λ a low high. same a (omega (arith, high))))

has_from : (spec : RoomSpec) (fields : Fields) (a p : ℕ) → a < spec.simulators → fields.out a p ≢ 0 → has_out spec fields p ≡ true
has_from spec fields a p below some =
    let long = length-map-range_with_len (λ (i : ℕ). fields.out i p) 0 spec.simulators in
    list_any_at is_out (outs_at spec fields p) a 0 (omega (arith, long, below))
    (ap is_out (get_or-map-range_with_len (λ (i : ℕ). fields.out i p) 0 spec.simulators a a 0 below (omega arith)) ∙ ap not (ne_eqb (fields.out a p) 0 some))

none_in : (outs : List ℕ) → list_any is_out outs ≡ false → find is_out outs ≡ None
none_in [] none = refl
none_in (out ∷ outs) none = elim (cases_Bool (is_out out)) [
  | inl is ↦ absurd (let wrong : true || list_any is_out outs ≡ false = ap (λ (b : Bool). b || list_any is_out outs) (sym is) ∙ none in cc)
  | inr is ↦ rw is (none_in outs (ap (λ (b : Bool). b || list_any is_out outs) (sym is) ∙ none))
]

undecided_in : (spec : RoomSpec) (fields : Fields) (p : ℕ) → has_out spec fields p ≡ false → decided_in spec fields p ≡ None
undecided_in spec fields p none = ap (λ (o : Option ℕ). Rattle.std.specs.Option.option_map (λ out. out - 1) o) (none_in (outs_at spec fields p) none)

-- ---- which of the points

on_nothing : (spec : RoomSpec) (read : Bool) (before after : Fields) (j k : ℕ) → greatest_step spec after j ≤ greatest_step spec before j → read ≡ false → (has_out spec before j ≡ false → decided_in spec after j ≡ None) → points_on spec read before after j k ≡ []
on_nothing spec read before after j k least unread none = rw (le-ltb (greatest_step spec before j) (greatest_step spec after j) least, unread) (elim (cases_Bool (has_out spec before j)) [ inl has ↦ rw has refl | inr undecided ↦ rw (undecided, none undecided) refl ])

on_write : (spec : RoomSpec) (read : Bool) (before after : Fields) (j k : ℕ) → greatest_step spec before j < greatest_step spec after j → points_on spec read before after j k ≡ Writes j (greatest_step spec after j) ∷ []
on_write spec read before after j k less = rw (lt-ltb (greatest_step spec before j) (greatest_step spec after j) less) refl

on_snap : (spec : RoomSpec) (read : Bool) (before after : Fields) (j k : ℕ) → greatest_step spec after j ≤ greatest_step spec before j → read ≡ true → points_on spec read before after j k ≡ Snaps j k ∷ []
on_snap spec read before after j k least is = rw (le-ltb (greatest_step spec before j) (greatest_step spec after j) least, is) refl

on_decide : (spec : RoomSpec) (read : Bool) (before after : Fields) (j k decision : ℕ) → greatest_step spec after j ≤ greatest_step spec before j → read ≡ false → has_out spec before j ≡ false → decided_in spec after j ≡ Some decision → points_on spec read before after j k ≡ Decides j decision ∷ []
on_decide spec read before after j k decision least unread none is = rw (le-ltb (greatest_step spec before j) (greatest_step spec after j) least, unread, none, is) refl

-- ---- plain facts

not_true_of : (b : Bool) → (b ≡ true → ⊥) → b ≡ false
not_true_of true never = absurd (never refl)
not_true_of false never = refl

both_true : (b c : Bool) → b ≡ true → c ≡ true → b && c ≡ true
both_true true c is is' = is'
both_true false c is is' = absurd cc

same_event : (x y : ℕ) → ◌≡◌ {A = Option ScheduleEvent} (Some (steps x)) (Some (steps y)) → x ≡ y
same_event x y is = cc

no_crash : (x y : ℕ) → ◌≡◌ {A = Option ScheduleEvent} (Some (crashes x)) (Some (steps y)) → ⊥
no_crash x y is = cc

no_out_in : (a n : ℕ) → list_any is_out (map (λ (i : ℕ). 0) (range_with_len a n)) ≡ false
no_out_in a zero = refl
no_out_in a (suc n) = no_out_in (a + 1) n

raise_apart : (line : Line) → line ≡ Raise → line ≡ Snap → ⊥
raise_apart line is is' = let wrong : ◌≡◌ {A = Line} Raise Snap = sym is ∙ is' in cc

out_apart : (line : Line) (decision : ℕ) → line ≡ Out decision → line ≡ Snap → ⊥
out_apart line decision is is' = let wrong : ◌≡◌ {A = Line} (Out decision) Snap = sym is ∙ is' in cc

-- ---- one line, whatever it comes to in the end

module _ (spec : RoomSpec) (before after : Fields) (i : ℕ) (effect : IsLineOf spec before after i) where
  step_of : (row : ℕ → ℕ) → after.step i ≡ row → (a p : ℕ) → (a ≡ i → after.step a p ≡ row p) × (a ≢ i → after.step a p ≡ before.step a p)
  step_of row is a p = (λ e. ap (λ (b : ℕ). after.step b p) e ∙ ap (λ (r : ℕ → ℕ). r p) is, λ n. ap (λ (own : Own). own.step p) (effect.others a n))

  pub steps_same : after.step i ≡ before.step i → (a p : ℕ) → after.step a p ≡ before.step a p
  steps_same is a p = dite (ℕ_discrete a i)
      (λ (e : a ≡ i). (step_of (before.step i) is a p).0 e ∙ ap (λ (b : ℕ). before.step b p) (sym e))
      (λ (n : a ≢ i). (step_of (before.step i) is a p).1 n)

  pub outs_same : after.out i ≡ before.out i → (a p : ℕ) → after.out a p ≡ before.out a p
  outs_same is a p = dite (ℕ_discrete a i)
      (λ (e : a ≡ i). ap (λ (b : ℕ). after.out b p) e ∙ ap (λ (r : ℕ → ℕ). r p) is ∙ ap (λ (b : ℕ). before.out b p) (sym e))
      (λ (n : a ≢ i). ap (λ (own : Own). own.out p) (effect.others a n))

  -- one more at one process
  raised_here : (j a : ℕ) → after.step i ≡ changed (before.step i) j (before.step i j + 1) → after.step a j ≤ before.step a j + 1
  raised_here j a is = dite (ℕ_discrete a i)
      (λ (e : a ≡ i). let s = (step_of (changed (before.step i) j (before.step i j + 1)) is a j).0 e ∙ changed_here (before.step i) j (before.step i j + 1) j refl ∙ ap (λ (b : ℕ). before.step b j + 1) (sym e) in omega (arith, s))
      (λ (n : a ≢ i). let s = (step_of (changed (before.step i) j (before.step i j + 1)) is a j).1 n in omega (arith, s))

  raised_least : (j a : ℕ) → after.step i ≡ changed (before.step i) j (before.step i j + 1) → before.step a j ≤ after.step a j
  raised_least j a is = dite (ℕ_discrete a i)
      (λ (e : a ≡ i). let s = (step_of (changed (before.step i) j (before.step i j + 1)) is a j).0 e ∙ changed_here (before.step i) j (before.step i j + 1) j refl ∙ ap (λ (b : ℕ). before.step b j + 1) (sym e) in omega (arith, s))
      (λ (n : a ≢ i). let s = (step_of (changed (before.step i) j (before.step i j + 1)) is a j).1 n in omega (arith, s))

  pub raised_else : (j q a : ℕ) → q ≢ j → after.step i ≡ changed (before.step i) j (before.step i j + 1) → after.step a q ≡ before.step a q
  raised_else j q a apart is = dite (ℕ_discrete a i)
      (λ (e : a ≡ i). (step_of (changed (before.step i) j (before.step i j + 1)) is a q).0 e ∙ changed_else (before.step i) j (before.step i j + 1) q apart ∙ ap (λ (b : ℕ). before.step b q) (sym e))
      (λ (n : a ≢ i). (step_of (changed (before.step i) j (before.step i j + 1)) is a q).1 n)

  pub stored_else : (j q a entry : ℕ) → q ≢ j → after.out i ≡ changed (before.out i) j entry → after.out a q ≡ before.out a q
  stored_else j q a entry apart is = dite (ℕ_discrete a i)
      (λ (e : a ≡ i). ap (λ (b : ℕ). after.out b q) e ∙ ap (λ (r : ℕ → ℕ). r q) is ∙ changed_else (before.out i) j entry q apart ∙ ap (λ (b : ℕ). before.out b q) (sym e))
      (λ (n : a ≢ i). ap (λ (own : Own). own.out q) (effect.others a n))

module _ (spec : RoomSpec) (schedule : List ScheduleEvent) (final : Fields) (leads : fields_at spec schedule (length schedule) ≡ final) (tracks : KeepsTrack spec final) (history : IsHistory spec schedule final) (pointed : IsPointed spec schedule final) (all : ArePassed spec schedule) (known : IsKnown spec final) where
  abbrev pub timeline : Timeline
  timeline = timeline_of spec schedule final

  abbrev at_time : ℕ → Fields
  at_time time = fields_at spec schedule time

  abbrev pub Passed : ℕ → ℕ → Type 0
  Passed p r = IsFixedIn (processes spec) spec.rounds (is_fixed spec final) p r

  abbrev ReadsAt : ℕ → ℕ → ℕ → ℕ → Type 0
  ReadsAt time i p r = IsReadAt spec (slice_get schedule time) (fields_at spec schedule time) (fields_at spec schedule (time + 1)) i p r

  abbrev Unread : ℕ → Type 0
  Unread time = IsUnread (processes spec) spec.rounds (timeline_of spec schedule final) time

  -- ---- when the snapshots were read

  pub passed_read : (p r : ℕ) → Passed p r → IsRead spec schedule (shown_of spec final p r) p r (view_at spec final p r)
  passed_read p r passed =
      let at = fixed_of spec final p r passed.is in
      let least = fixed_has_least spec final p r at in
      let who : least.0 ≡ shown_of spec final p r = ap or_zero (sym least.2) in
      subst (λ (a : ℕ). IsRead spec schedule a p r (final.view a p r)) who (pointed.shown least.0 p r least.1 passed.first (at_two spec final least.0 p r tracks least.3))

  reads_time : (time p r : ℕ) → Passed p r → read_time spec schedule final p r ≡ time → ReadsAt time (shown_of spec final p r) p r
  reads_time time p r passed is =
      subst (λ (t : ℕ). ReadsAt t (shown_of spec final p r) p r) is
      (read_is spec (slice_get schedule (read_time spec schedule final p r)) (fields_at spec schedule (read_time spec schedule final p r)) (fields_at spec schedule (read_time spec schedule final p r + 1)) (shown_of spec final p r) p r (passed_read p r passed).reads)

  unread_by : (time : ℕ) → ((i p r : ℕ) → ReadsAt time i p r → ⊥) → Unread time
  unread_by time never p r passed is = never (shown_of spec final p r) p r (reads_time time p r passed is)

  unread_line : (time i : ℕ) → slice_get schedule time ≡ Some (steps i) → (((fields_at spec schedule time).mind i).line ≡ Snap → ⊥) → Unread time
  unread_line time i is other = unread_by time (λ a p r reads.
      let same : a ≡ i = same_event a i (sym reads.event_is ∙ is) in
      other (ap (λ (b : ℕ). ((fields_at spec schedule time).mind b).line) (sym same) ∙ reads.line))

  read_parts : (time i j k : ℕ) → is_read spec schedule final time i j k ≡ true → ReadsAt time i j k × (is_fixed spec final j k ≡ true) × (shown_of spec final j k ≡ i) × (read_time spec schedule final j k ≡ time)
  read_parts time i j k is =
      let both = and_parts (reads_at spec schedule time i j k && is_fixed spec final j k) (eqb (shown_of spec final j k) i && eqb (read_time spec schedule final j k) time) is in
      let one = and_parts (reads_at spec schedule time i j k) (is_fixed spec final j k) both.0 in
      let two = and_parts (eqb (shown_of spec final j k) i) (eqb (read_time spec schedule final j k) time) both.1 in (
        read_is spec (slice_get schedule time) (fields_at spec schedule time) (fields_at spec schedule (time + 1)) i j k one.0,
        one.1,
        eqb-true (shown_of spec final j k) i two.0,
        eqb-true (read_time spec schedule final j k) time two.1,
      )

  not_read : (time i j k : ℕ) → (((fields_at spec schedule time).mind i).line ≡ Snap → ⊥) → is_read spec schedule final time i j k ≡ false
  not_read time i j k other = not_true_of (is_read spec schedule final time i j k) (λ is. other ((read_parts time i j k is).0).line)

  -- ---- what lasts to the end

  lasts_to : (s t : ℕ) → s ≤ t → t ≤ length schedule → Lasts spec (fields_at spec schedule s) (fields_at spec schedule t)
  lasts_to s t before within =
      let same : s + (t - s) ≡ t = omega arith in
      subst (λ (u : ℕ). Lasts spec (fields_at spec schedule s) (fields_at spec schedule u)) same (lasts spec schedule all s (t - s) (omega (arith, before, within)))

  pub lasts_final : (s : ℕ) → s ≤ length schedule → Lasts spec (fields_at spec schedule s) final
  lasts_final s within = subst (λ (f : Fields). Lasts spec (fields_at spec schedule s) f) leads (lasts_to s (length schedule) within (omega arith))

  known_at : (t : ℕ) → t ≤ length schedule → IsKnown spec (fields_at spec schedule t)
  known_at t within = elim (cases_lt t (length schedule)) [
    | inl less ↦ (all t less).known
    | inr more ↦
        let same : length schedule ≡ t = omega (arith, within, more) in
        subst (λ (u : ℕ). IsKnown spec (fields_at spec schedule u)) same (subst (IsKnown spec) (sym leads) known)
  ]

  -- ---- a snapshot was read before its agreement was fixed

  -- whoever reads is at level 0
  level_at : (t a j k : ℕ) → ReadsAt t a j k → t < length schedule → (fields_at spec schedule t).level a j k ≡ 0
  level_at t a j k reads soon = by_kind (all t soon).kind
    where
      by_move : (own after : Own) → OwnMove spec own after → own.mind.line ≡ Snap → process_on own ≡ j → round_on own ≡ k → own.level j k ≡ 0
      by_move own next (rests other same same') stands e e' = absurd (other stands)
      by_move own next (counts turn count same same') stands e e' = absurd (raise_apart own.mind.line turn.stands stands)
      by_move own next (scanning turn count none same same') stands e e' = ap (λ (p : ℕ). own.level p k) (sym e) ∙ ap (λ (r : ℕ). own.level (process_on own) r) (sym e') ∙ none
      by_move own next (storing decision turn count same same') stands e e' = absurd (out_apart own.mind.line decision turn.stands stands)

      by_kind : IsEventOf spec (slice_get schedule t) (fields_at spec schedule t) (fields_at spec schedule (t + 1)) → (fields_at spec schedule t).level a j k ≡ 0
      by_kind (stepping b event effect') =
          let who : a ≡ b = same_event a b (sym reads.event_is ∙ event) in
          subst (λ (c : ℕ). (fields_at spec schedule t).level c j k ≡ 0) (sym who)
          (by_move (own_of (fields_at spec schedule t) b) (own_of (fields_at spec schedule (t + 1)) b) (own_move spec (fields_at spec schedule t) (own_of (fields_at spec schedule t) b) (own_of (fields_at spec schedule (t + 1)) b) effect'.own)
          (ap (λ (c : ℕ). ((fields_at spec schedule t).mind c).line) (sym who) ∙ reads.line) (ap (λ (c : ℕ). ((fields_at spec schedule t).mind c).process) (sym who) ∙ reads.process) (ap (λ (c : ℕ). current_round ((fields_at spec schedule t).mind c)) (sym who) ∙ reads.round))
      by_kind (crashing b event after_is) = absurd (no_crash b a (sym event ∙ reads.event_is))

  pub read_before : (j k time : ℕ) → Passed j k → time ≤ length schedule → IsFixedAt spec (fields_at spec schedule time) j k → read_time spec schedule final j k < time
  read_before j k time passed within at = elim (cases_lt (read_time spec schedule final j k) time) [
    | inl less ↦ less
    | inr late ↦
        let soon = (passed_read j k passed).early in
        let reads = reads_time (read_time spec schedule final j k) j k passed refl in
        let chosen = fixed_has_least spec (fields_at spec schedule time) j k at in
        let who : chosen.0 ≡ shown_of spec final j k = ap or_zero (sym chosen.2 ∙ (lasts_final time within).levels.least j k at) in
        let zero_level = level_at (read_time spec schedule final j k) (shown_of spec final j k) j k reads soon in
        let two = ((lasts_to time (read_time spec schedule final j k) late (omega (arith, soon))).levels.twos j k chosen.0 chosen.1 at).0 chosen.3 in
        let two' : (fields_at spec schedule (read_time spec schedule final j k)).level (shown_of spec final j k) j k ≡ 2 = subst (λ (a : ℕ). (fields_at spec schedule (read_time spec schedule final j k)).level a j k ≡ 2) who two in
        absurd (omega (arith, zero_level, two'))
  ]

  -- ---- a step

  abbrev Step : ℕ → ℕ → List Point → Type 0
  Step time i points = Moves (processes spec) spec.rounds (timeline_of spec schedule final) time points

  module _ (time : ℕ) (early : time < length schedule) (i : ℕ) (is : slice_get schedule time ≡ Some (steps i)) (effect : IsLineOf spec (fields_at spec schedule time) (fields_at spec schedule (time + 1)) i) where
    abbrev before : Fields
    before = fields_at spec schedule time

    abbrev after : Fields
    after = fields_at spec schedule (time + 1)

    abbrev j : ℕ
    j = ((fields_at spec schedule time).mind i).process

    abbrev k : ℕ
    k = current_round ((fields_at spec schedule time).mind i)

    abbrev here : List Point
    here = points_by (Some (steps i)) spec schedule final time

    all_counted : after.step i ≡ before.step i → AreCounted (processes spec) timeline time
    all_counted same p low = counted_same spec before after p (λ a below. steps_same spec before after i effect same a p)

    all_decided : after.out i ≡ before.out i → AreDecided (processes spec) timeline time
    all_decided same p low = out_same spec before after p (λ a below. outs_same spec before after i effect same a p)

    no_decision : after.out i ≡ before.out i → has_out spec before j ≡ false → decided_in spec after j ≡ None
    no_decision same none = undecided_in spec after j (out_same spec before after j (λ a below. outs_same spec before after i effect same a j) ∙ none)

    rest_moves : (before.mind i).line ≢ Snap → after.step i ≡ before.step i → after.out i ≡ before.out i → Step time i here
    rest_moves other same same' =
        subst (Moves (processes spec) spec.rounds timeline time)
        (sym (on_nothing spec (is_read spec schedule final time i j k) before after j k (let e = counted_same spec before after j (λ a below. steps_same spec before after i effect same a j) in omega (arith, e)) (not_read time i j k other) (no_decision same')))
        (nothing (all_counted same) (all_decided same') (unread_line time i is other))

    count_moves : IsTurn spec (own_of before i) Raise → after.step i ≡ changed (before.step i) j (before.step i j + 1) → after.out i ≡ before.out i → Step time i here
    count_moves turn step same' = elim (cases_lt (greatest_step spec before j) (greatest_step spec after j)) [
      | inl less ↦
          subst (Moves (processes spec) spec.rounds timeline time) (sym (on_write spec (is_read spec schedule final time i j k) before after j k less))
          (writes j (greatest_step spec after j) turn.process (omega (arith, less, most)) refl others (all_decided same') (unread_line time i is (raise_apart (before.mind i).line turn.stands)))
      | inr least ↦
          subst (Moves (processes spec) spec.rounds timeline time) (sym (on_nothing spec (is_read spec schedule final time i j k) before after j k least (not_read time i j k (raise_apart (before.mind i).line turn.stands)) (no_decision same')))
          (nothing (λ p low. elim (cases_eq p j) [
            | inl e ↦ subst (λ (q : ℕ). greatest_step spec after q ≡ greatest_step spec before q) (sym e) (omega (arith, least, more))
            | inr apart ↦ others p low apart
          ]) (all_decided same') (unread_line time i is (raise_apart (before.mind i).line turn.stands)))
    ]
      where
        most : greatest_step spec after j ≤ greatest_step spec before j + 1
        most = counted_most spec before after j 1 (λ a below. raised_here spec before after i effect j a step)

        more : greatest_step spec before j ≤ greatest_step spec after j
        more = counted_more spec before after j (λ a below. raised_least spec before after i effect j a step)

        others : (q : ℕ) → q < processes spec → q ≢ j → greatest_step spec after q ≡ greatest_step spec before q
        others q low apart = counted_same spec before after q (λ a below. raised_else spec before after i effect j q a apart step)

    scan_moves : IsTurn spec (own_of before i) Snap → after.step i ≡ before.step i → after.out i ≡ before.out i → Step time i here
    scan_moves turn same same' = elim (cases_Bool (is_read spec schedule final time i j k)) [
      | inl read ↦
          let parts = read_parts time i j k read in
          subst (Moves (processes spec) spec.rounds timeline time) (sym (on_snap spec (is_read spec schedule final time i j k) before after j k least read))
          (snaps j k (record { process = turn.process; first = turn.first; last = turn.last; is = parts.1 }) parts.3 (λ q s passed there. let at = place q s passed there in (at.1, at.2)) (all_counted same) (all_decided same'))
      | inr unread ↦
          subst (Moves (processes spec) spec.rounds timeline time) (sym (on_nothing spec (is_read spec schedule final time i j k) before after j k least unread (no_decision same')))
          (nothing (all_counted same) (all_decided same') (λ q s passed there.
          let at = place q s passed there in
          let it : is_read spec schedule final time i q s ≡ true =
          both_true (reads_at spec schedule time i q s && is_fixed spec final q s) (eqb (shown_of spec final q s) i && eqb (read_time spec schedule final q s) time)
          (both_true (reads_at spec schedule time i q s) (is_fixed spec final q s) (subst (λ (a : ℕ). reads_at spec schedule time a q s ≡ true) at.0 (subst (λ (t : ℕ). reads_at spec schedule t (shown_of spec final q s) q s ≡ true) there (passed_read q s passed).reads)) passed.is)
          (both_true (eqb (shown_of spec final q s) i) (eqb (read_time spec schedule final q s) time) (eq-eqb (shown_of spec final q s) i at.0) (eq-eqb (read_time spec schedule final q s) time there)) in
          let wrong : true ≡ false = sym it ∙ ap (λ (p : ℕ). is_read spec schedule final time i p s) at.1 ∙ ap (λ (r : ℕ). is_read spec schedule final time i j r) at.2 ∙ unread in
          cc))
    ]
      where
        least : greatest_step spec after j ≤ greatest_step spec before j
        least = let e = counted_same spec before after j (λ a below. steps_same spec before after i effect same a j) in omega (arith, e)

        place : (q s : ℕ) → Passed q s → read_time spec schedule final q s ≡ time → (shown_of spec final q s ≡ i) × (q ≡ j) × (s ≡ k)
        place q s passed there =
            let reads = reads_time time q s passed there in
            let who : shown_of spec final q s ≡ i = same_event (shown_of spec final q s) i (sym reads.event_is ∙ is) in
            (who, sym reads.process ∙ ap (λ (a : ℕ). ((fields_at spec schedule time).mind a).process) who, sym reads.round ∙ ap (λ (a : ℕ). current_round ((fields_at spec schedule time).mind a)) who)

    store_moves : (decision : ℕ) → IsTurn spec (own_of before i) (Out decision) → before.step i j ≡ k → after.step i ≡ before.step i → after.out i ≡ changed (before.out i) j (decision + 1) → Step time i here
    store_moves decision turn count same out = elim (cases_Bool (has_out spec before j)) [
      | inl has ↦
          subst (Moves (processes spec) spec.rounds timeline time) (sym (on_nothing spec (is_read spec schedule final time i j k) before after j k least (not_read time i j k never) (λ none. absurd (let wrong : true ≡ false = sym has ∙ none in cc))))
          (nothing (all_counted same) (λ q low. elim (cases_eq q j) [
            | inl e ↦ subst (λ (p : ℕ). has_out spec after p ≡ has_out spec before p) (sym e) (now_out ∙ sym has)
            | inr apart ↦ others q apart
          ]) (unread_line time i is never))
      | inr none ↦
          subst (Moves (processes spec) spec.rounds timeline time) (sym (on_decide spec (is_read spec schedule final time i j k) before after j k decision least (not_read time i j k never) none now_decided))
          (decides j decision turn.process none now_out (λ q low apart. others q apart) (all_counted same) (unread_line time i is never) decided_final counted_final
          (subst (λ (r : ℕ). Passed j r) (sym counted_is) passed) (subst (λ (r : ℕ). read_time spec schedule final j r < time) (sym counted_is) before_time))
    ]
      where
        never : (before.mind i).line ≡ Snap → ⊥
        never = out_apart (before.mind i).line decision turn.stands

        least : greatest_step spec after j ≤ greatest_step spec before j
        least = let e = counted_same spec before after j (λ a below. steps_same spec before after i effect same a j) in omega (arith, e)

        stored : after.out i j ≡ decision + 1
        stored = ap (λ (row : ℕ → ℕ). row j) out ∙ changed_here (before.out i) j (decision + 1) j refl

        others : (q : ℕ) → q ≢ j → has_out spec after q ≡ has_out spec before q
        others q apart = out_same spec before after q (λ a below. stored_else spec before after i effect j q a (decision + 1) apart out)

        now_out : has_out spec after j ≡ true
        now_out = has_from spec after i j effect.below (λ zero_out. omega (arith, zero_out, stored))

        now_decided : decided_in spec after j ≡ Some decision
        now_decided = out_decided spec after i j decision (known_at (time + 1) (omega (arith, early))) effect.below turn.process stored

        stored_final : final.out i j ≡ decision + 1
        stored_final = (lasts_final (time + 1) (omega (arith, early))).agreed.out i j (λ zero_out. omega (arith, zero_out, stored)) ∙ stored

        decided_final : decided_in spec final j ≡ Some decision
        decided_final = out_decided spec final i j decision known effect.below turn.process stored_final

        -- what it decides on was fixed, and is so in the end
        at : IsDeciding spec before j k decision
        at = (all time early).known.deciding i decision effect.below turn.stands

        to_end : Lasts spec before final
        to_end = lasts_final time (omega (arith, early))

        in_end : IsDeciding spec final j k decision
        in_end = record { fixed = to_end.levels.fixed j k at.fixed; first = at.first; action = to_end.agreed.asks j k at.first at.fixed ∙ at.action }

        -- nobody ever counts a later round
        last_final : greatest_step spec final j ≤ k
        last_final = merged_below spec.simulators final.step j k (λ a below. elim (cases_lt k (final.step a j)) [
          | inl more ↦ absurd (no_write_after spec final j k (final.value a j (k + 1)) decision in_end (known.values a j (k + 1) below turn.process (omega arith) (omega (arith, more))))
          | inr most ↦ most
        ])

        grown : greatest_step spec before j ≤ greatest_step spec final j
        grown = counted_more spec before final j (λ a below.
            let g = history.grows time (length schedule) (omega (arith, early)) (omega arith) a j below turn.process in
            let e : (fields_at spec schedule (length schedule)).step a j ≡ final.step a j = ap (λ (f : Fields). f.step a j) leads in
            omega (arith, g, e))

        counted_is : greatest_step spec before j ≡ k
        counted_is = let one = merged_at spec.simulators before.step i j effect.below in let g = grown in let l = last_final in omega (arith, one, g, l, count)

        final_is : greatest_step spec final j ≡ k
        final_is = let one = merged_at spec.simulators before.step i j effect.below in let g = grown in let l = last_final in omega (arith, one, g, l, count)

        counted_final : greatest_step spec before j ≡ greatest_step spec (fields_at spec schedule (length schedule)) j
        counted_final = counted_is ∙ sym final_is ∙ ap (λ (f : Fields). greatest_step spec f j) (sym leads)

        passed : Passed j k
        passed = record {
          process = turn.process;
          first = turn.first;
          last = turn.last;
          is = test_of spec final j k in_end.fixed;
        }

        before_time : read_time spec schedule final j k < time
        before_time = read_before j k time passed (omega (arith, early)) at.fixed

    move_of : OwnMove spec (own_of before i) (own_of after i) → Step time i here
    move_of (rests other same same') = rest_moves other same same'
    move_of (counts turn count same same') = count_moves turn same same'
    move_of (scanning turn count none same same') = scan_moves turn same same'
    move_of (storing decision turn count same same') = store_moves decision turn count same same'

  moves : (time : ℕ) → time < length schedule → Moves (processes spec) spec.rounds timeline time (points_at spec schedule final time)
  moves time early = by_kind (all time early).kind
    where
      by_kind : IsEventOf spec (slice_get schedule time) (fields_at spec schedule time) (fields_at spec schedule (time + 1)) → Moves (processes spec) spec.rounds timeline time (points_at spec schedule final time)
      by_kind (stepping i is effect) =
          subst (λ (e : Option ScheduleEvent). Moves (processes spec) spec.rounds timeline time (points_by e spec schedule final time)) (sym is)
          (move_of time early i is effect (own_move spec (fields_at spec schedule time) (own_of (fields_at spec schedule time) i) (own_of (fields_at spec schedule (time + 1)) i) effect.own))
      by_kind (crashing i is after_is) =
          subst (λ (e : Option ScheduleEvent). Moves (processes spec) spec.rounds timeline time (points_by e spec schedule final time)) (sym is)
          (nothing
          (λ p low. ap (λ (f : Fields). greatest_step spec f p) after_is)
          (λ p low. ap (λ (f : Fields). has_out spec f p) after_is)
          (unread_by time (λ a p r reads. no_crash i a (sym is ∙ reads.event_is))))

  -- a decision comes after the last snapshot
  decided_passed : (p decision : ℕ) → p < processes spec → decided_in spec final p ≡ Some decision → Passed p (greatest_step spec final p)
  decided_passed p decision low is =
      let out = decided_out spec final p decision is in
      let at = known.outs out.0 p decision out.1 low out.2 in
      let most : greatest_step spec final p ≤ final.step out.0 p = merged_below spec.simulators final.step p (final.step out.0 p) (λ a below. decided_last spec final out.0 a p decision known out.1 below low out.2) in
      let least = merged_at spec.simulators final.step out.0 p out.1 in
      let first = at.first in
      let few = tracks.range.step out.0 p in
      record {
        process = low;
        first = omega (arith, most, least, first);
        last = omega (arith, most, least, few);
        is = subst (λ (r : ℕ). is_fixed spec final p r ≡ true) (omega (arith, most, least)) (test_of spec final p (final.step out.0 p) at.fixed);
      }

  pub is_timeline : IsTimeline (processes spec) spec.rounds timeline (points_at spec schedule final)
  is_timeline = record {
    moves = moves;
    grows = λ s t p before within low. counted_more spec (fields_at spec schedule s) (fields_at spec schedule t) p (λ a below. history.grows s t before within a p below low);
    none = λ p. let most = merged_below spec.simulators (fields_at spec schedule 0).step p 0 (λ a below. omega arith) in omega (arith, most);
    undecided = λ p. no_out_in 0 spec.simulators;
    ends = λ p. ap (λ (f : Fields). greatest_step spec f p) leads;
    over = λ p none. undecided_in spec final p (ap (λ (f : Fields). has_out spec f p) (sym leads) ∙ none);
    last = λ p decision low is. decided_passed p decision low is;
    early = λ p r passed. (passed_read p r passed).early;
    shows = λ p r q passed low.
        row_at spec.simulators (processes spec) (view_at spec final p r) q low
        ∙ merged_same spec.simulators (processes spec) (view_at spec final p r) (fields_at spec schedule (read_time spec schedule final p r + 1)).step q low (passed_read p r passed).same;
  }
