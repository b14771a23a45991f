-- What is found from notes is the linearization of the schedule that was noted.
use Rattle.std.proofs.Common.{◌≡◌, ℕ, zero, suc, ◌+◌, ◌<◌, ◌≤◌, Bool, false, cond, leb, List, [], ◌∷◌, ◌++◌, length, map, fold, get_or, Option, Contains, inl, inr, refl, sym, ap, ◌∙◌, subst, arith}
use Rattle.std.specs.List.{range_with_len}
use Rattle.room_spec.specs.Rooms.{RoomSpec, IsWithinLimits, is_reduction, processes}
use Rattle.sim_memory.proofs.CallerLemmas.{row_length}
use Rattle.transcript.specs.declared.event.Event.{Event}
use Rattle.transcript.specs.declared.event.Event.TheVariants.{Write, Snap}
use Rattle.transcript.specs.Runs.{IsRun}
use Rattle.room_core.specs.Agreements.{greatest_step, is_fixed, row_at, run_spec, shown_by, shown_of, view_at}
use Rattle.room_core.specs.Calls.{RoomState, configuration_of, sweep_at}
use Rattle.room_core.specs.Fields.{Fields, opening_fields, replay_fields}
use Rattle.room_core.specs.Moments.{fields_at}
use Rattle.room_core.specs.Points.{AreEffects, Point, Writes, Snaps, TakesEffect, no_effect, one_effect, write_counted, snapshot_read, decision_stored, points_at}
use Rattle.room_core.specs.Reading.{AreFieldsOf}
use Rattle.room_core.specs.Rooms.{IsOneInterleaving, ScheduleEvent}
use Rattle.room_core.specs.Timelines.{IsTimeline, timeline_of}
use Rattle.room_core.proofs.CallerLemmas.{at_end, effects_at, fixed_aside, fixed_back, rooms_agree, timeline_of_run}
use Rattle.ws_history.specs.Histories.{Source, shown, shown_row}
use Rattle.ws_history.specs.Linearizations.{AreEventsAtSteps, LackAtMostASnapshot, IsLinearization, Timed, event_of, events_in, events_of, timed_event}
use Rattle.ws_history.specs.Notes.{AreNotesOf, Notes}
use Rattle.ws_history.specs.Ordered.{all_points, decision_at, decision_points, events_by_time, points_of, put_event, put_in, read_points, round_points, write_points}
use Rattle.ws_history.specs.Readings.{read_of}
use Rattle.ws_history.specs.Sources.{history_of, source_of}
use Rattle.ws_history.proofs.Agreeing.{same_row, same_value, same_written}
use Rattle.ws_history.proofs.Linearized.{linearization_events, linearization_run, ordinary_linearization_run}
use Rattle.ws_history.proofs.NotedPoints.{Effective, from_all, into_all}
use Rattle.ws_history.proofs.Order.{not_empty}
use Rattle.ws_history.proofs.Placed.{events_folded, from_folded, placed, rising_folded, to_folded}
use Rattle.ws_history.proofs.RoomFields.{history_in, low_rows, run_in}
use Rattle.ws_history.proofs.Said.{agree, said_count, said_decided, said_fixed, said_shown}
use Rattle.ws_history.proofs.Walking.{map_same}

-- ---- two that take effect at one step are one

one_at : (spec : RoomSpec) (schedule : List ScheduleEvent) (final : Fields) (time : ℕ) (points : List Point) → AreEffects spec schedule final time points → (x y : Point) → TakesEffect spec schedule final time x → TakesEffect spec schedule final time y → x ≡ y
one_at spec schedule final time points (no_effect none) x y takes takes' = absurd (none x takes)
one_at spec schedule final time points (one_effect point at alone) x y takes takes' = alone x takes ∙ sym (alone y takes')

-- ---- quiet counts don't matter

module _ (spec : RoomSpec) (schedule : List ScheduleEvent) (fields : Fields) (quiet : ℕ → ℕ) where
  abbrev aside : Fields
  aside = record fields { quiet = quiet }

  to_aside : (time : ℕ) (point : Point) → TakesEffect spec schedule fields time point → TakesEffect spec schedule (record fields { quiet = quiet }) time point
  to_aside time point (write_counted p r low less now) = write_counted p r low less now
  to_aside time point (snapshot_read p r passed read) = snapshot_read p r (fixed_aside spec fields quiet p r passed) read
  to_aside time point (decision_stored p decision low none now is) = decision_stored p decision low none now is

  from_aside : (time : ℕ) (point : Point) → TakesEffect spec schedule (record fields { quiet = quiet }) time point → TakesEffect spec schedule fields time point
  from_aside time point (write_counted p r low less now) = write_counted p r low less now
  from_aside time point (snapshot_read p r passed read) = snapshot_read p r (fixed_back spec fields quiet p r passed) read
  from_aside time point (decision_stored p decision low none now is) = decision_stored p decision low none now is

-- ---- the same points by the words and by the fields

same_write : (b c : Bool) (x : Timed) → b ≡ c → cond b (x ∷ []) [] ≡ cond c (x ∷ []) []
same_write b c x same = ap (λ (d : Bool). cond d (x ∷ []) []) same

module _ (room : RoomState) (limits : IsWithinLimits room.spec) (one : IsOneInterleaving (configuration_of room)) (notes : Notes) where
  abbrev base : Fields
  base = replay_fields room.spec (opening_fields room.spec) one.schedule

  same_round : (p r : ℕ) → p < processes room.spec → 1 ≤ r → r ≤ room.spec.rounds
      → write_points room.spec (read_of room) notes p r ++ read_points room.spec (read_of room) notes p r ≡ write_points room.spec base notes p r ++ read_points room.spec base notes p r
  same_round p r low first last =
      ap (λ (g : ℕ). cond (leb r g) ((record { time = Rattle.ws_history.specs.Notes.counted_at room.spec notes p r; point = Writes p r }) ∷ []) [] ++ read_points room.spec (read_of room) notes p r) (said_count room limits one p low)
      ∙ ap (λ (b : Bool). write_points room.spec base notes p r ++ cond b ((record { time = Rattle.ws_history.specs.Notes.read_at room.spec notes (shown_of room.spec (read_of room) p r) p r; point = Snaps p r }) ∷ []) []) (said_fixed room limits one p r low first last)
      ∙ ap (λ (i : ℕ). write_points room.spec base notes p r ++ cond (is_fixed room.spec base p r) ((record { time = Rattle.ws_history.specs.Notes.read_at room.spec notes i p r; point = Snaps p r }) ∷ []) []) (said_shown room limits one p r low first last)

  same_rounds : (p r : ℕ) → p < processes room.spec → r ≤ room.spec.rounds → round_points room.spec (read_of room) notes p r ≡ round_points room.spec base notes p r
  same_rounds p zero low last = refl
  same_rounds p (suc r) low last =
      ap (λ (l : List Timed). l ++ (write_points room.spec (read_of room) notes p (r + 1) ++ read_points room.spec (read_of room) notes p (r + 1))) (same_rounds p r low (omega (arith, last)))
      ∙ ap (λ (l : List Timed). round_points room.spec base notes p r ++ l) (same_round p (r + 1) low (omega arith) (omega (arith, last)))

  same_process : (p : ℕ) → p < processes room.spec → points_of room.spec (read_of room) notes p ≡ points_of room.spec base notes p
  same_process p low =
      ap (λ (l : List Timed). l ++ decision_points room.spec (read_of room) notes p) (same_rounds p room.spec.rounds low (omega arith))
      ∙ ap (λ (d : Option ℕ). round_points room.spec base notes p room.spec.rounds ++ decision_at (Rattle.ws_history.specs.Notes.stored_at notes p) p d) (said_decided room limits one p low)

  same_points : (n : ℕ) → n ≤ processes room.spec → all_points room.spec (read_of room) notes n ≡ all_points room.spec base notes n
  same_points zero few = refl
  same_points (suc n) few =
      ap (λ (l : List Timed). l ++ points_of room.spec (read_of room) notes n) (same_points n (omega (arith, few)))
      ∙ ap (λ (l : List Timed). all_points room.spec base notes n ++ l) (same_process n (omega (arith, few)))

-- ---- the same events

-- what a snapshot of a source shows
pub row_shown : (spec : RoomSpec) (fields : Fields) (p r : ℕ) → shown_row (source_of spec fields) (record { process = p; round = r }) ≡ shown_by spec fields (row_at spec fields p r)
row_shown spec fields p r =
    ap (λ (n : ℕ). map (λ q. shown (source_of spec fields) q (get_or (row_at spec fields p r) q 0)) (range_with_len 0 n)) (row_length spec.simulators (processes spec) (view_at spec fields p r))

module _ (room : RoomState) (limits : IsWithinLimits room.spec) (one : IsOneInterleaving (configuration_of room)) where
  abbrev read_source : Source
  read_source = source_of room.spec (read_of room)

  abbrev base_source : Source
  base_source = source_of room.spec (replay_fields room.spec (opening_fields room.spec) one.schedule)

  some : 0 < room.spec.simulators
  some = let least = limits.shape.m_range.0 in omega (arith, least)

  abbrev with_counts : Fields
  with_counts = record (replay_fields room.spec (opening_fields room.spec) one.schedule) { quiet = λ a. (sweep_at room a).quiet }

  same_snapshot : (p r : ℕ) → p < processes room.spec → 1 ≤ r → r ≤ room.spec.rounds → shown_row read_source (record { process = p; round = r }) ≡ shown_row base_source (record { process = p; round = r })
  same_snapshot p r low first last =
      let read = read_of room in
      row_shown room.spec (read_of room) p r
      ∙ map_same _ _ 0 (processes room.spec) (λ q least below. same_value room.spec (read_of room) with_counts some (agree room limits one) q (get_or (row_at room.spec (read_of room) p r) q 0) (omega (arith, below)) (low_rows room p r q))
      ∙ ap (shown_by room.spec with_counts) (same_row room.spec (read_of room) with_counts some (agree room limits one) p r low first last)
      ∙ sym (row_shown room.spec with_counts p r)

  -- of a point that takes effect
  same_event : (schedule : List ScheduleEvent) (time : ℕ) (point : Point) → ((p r : ℕ) → point ≡ Writes p r → (1 ≤ r) × (r ≤ room.spec.rounds)) → TakesEffect room.spec schedule (replay_fields room.spec (opening_fields room.spec) one.schedule) time point
      → event_of read_source point ≡ event_of base_source point
  same_event schedule time point ranges (write_counted p r low less now) =
      let range = ranges p r refl in
      ap (Write p) (same_written room.spec (read_of room) with_counts some (agree room limits one) p r low range.0 range.1)
  same_event schedule time point ranges (snapshot_read p r passed read) =
      ap (λ (row : List (Option ℕ)). Snap p (record { items = row })) (same_snapshot p r passed.process passed.first passed.last)
  same_event schedule time point ranges (decision_stored p decision low none now is) = refl

folded_same : (one other : Source) (xs : List Timed) (events : List (ℕ × Event)) → ((x : Timed) → Contains xs x → event_of one x.point ≡ event_of other x.point) → fold (put_event one) events xs ≡ fold (put_event other) events xs
folded_same one other [] events same = refl
folded_same one other (x ∷ xs) events same =
    ap (λ (e : Event). fold (put_event one) (Rattle.std.specs.BTreeMap.insert_entry Rattle.std.specs.Ordering.nat_cmp events x.time e) xs) (same x (Rattle.ws_history.proofs.Order.cons_first x xs))
    ∙ folded_same one other xs (put_event other events x) (λ y has. same y (Rattle.ws_history.proofs.Order.cons_rest x xs y has))

-- ---- all of it

module _ (room : RoomState) (limits : IsWithinLimits room.spec) (schedule : List ScheduleEvent) (notes : Notes) (are : AreNotesOf (configuration_of room) schedule notes) where
  abbrev one : IsOneInterleaving (configuration_of room)
  one = record { schedule = schedule; legal = are.legal; leads = are.leads }

  abbrev final : Fields
  final = replay_fields room.spec (opening_fields room.spec) schedule

  abbrev counted_fields : Fields
  counted_fields = record (replay_fields room.spec (opening_fields room.spec) schedule) { quiet = λ a. (sweep_at room a).quiet }

  abbrev fields_are : AreFieldsOf room (record (replay_fields room.spec (opening_fields room.spec) schedule) { quiet = λ a. (sweep_at room a).quiet })
  fields_are = record { run = record { schedule = schedule; legal = are.legal; leads = are.leads }; leads = refl; counts = λ a below. refl }

  abbrev src : Source
  src = source_of room.spec (replay_fields room.spec (opening_fields room.spec) schedule)

  abbrev n : ℕ
  n = processes room.spec

  leads : fields_at room.spec schedule (length schedule) ≡ replay_fields room.spec (opening_fields room.spec) schedule
  leads = at_end room.spec schedule (length schedule) (omega arith)

  timeline : IsTimeline (processes room.spec) room.spec.rounds (timeline_of room.spec schedule (replay_fields room.spec (opening_fields room.spec) schedule)) (points_at room.spec schedule (replay_fields room.spec (opening_fields room.spec) schedule))
  timeline = timeline_of_run room counted_fields limits fields_are

  enough : 0 < room.spec.simulators
  enough = let least = limits.shape.m_range.0 in omega (arith, least)

  most : (p : ℕ) → p < processes room.spec → greatest_step room.spec (replay_fields room.spec (opening_fields room.spec) schedule) p ≤ room.spec.rounds
  most p low = (rooms_agree room counted_fields limits fields_are).steps_are_within p low

  abbrev Takes : Timed → Type 0
  Takes = Effective (configuration_of room) schedule notes are (replay_fields room.spec (opening_fields room.spec) schedule) enough timeline leads most

  abbrev points : List Timed
  points = all_points room.spec (replay_fields room.spec (opening_fields room.spec) schedule) notes (processes room.spec)

  takes : (z : Timed) → Contains points z → Takes z
  takes z has = from_all (configuration_of room) schedule notes are (replay_fields room.spec (opening_fields room.spec) schedule) enough timeline leads most (processes room.spec) z (omega arith) has

  has_all : (z : Timed) → Takes z → Contains points z
  has_all z both = into_all (configuration_of room) schedule notes are (replay_fields room.spec (opening_fields room.spec) schedule) enough timeline leads most z both

  -- two of one time are one
  apart : (x y : Timed) → Takes x → Takes y → x.time ≡ y.time → x ≡ y
  apart x y first second same =
      let quiet = counted_fields.quiet in
      let here = to_aside room.spec schedule final quiet x.time x.point first.1 in
      let there = to_aside room.spec schedule final quiet x.time y.point (subst (λ (t : ℕ). TakesEffect room.spec schedule final t y.point) (sym same) second.1) in
      let one_point : x.point ≡ y.point = one_at room.spec schedule counted_fields x.time (points_at room.spec schedule counted_fields x.time) (effects_at room counted_fields limits fields_are x.time first.0) x.point y.point here there in
      ap (λ (t : ℕ). record { time = t; point = x.point }) same ∙ ap (λ (q : Point). record { time = y.time; point = q }) one_point

  abbrev pub in_order : List Timed
  in_order = fold placed [] (all_points room.spec (replay_fields room.spec (opening_fields room.spec) schedule) notes (processes room.spec))

  is_linearization : IsLinearization room.spec schedule (replay_fields room.spec (opening_fields room.spec) schedule) in_order
  is_linearization = record {
    rising = rising_folded points [] tt;
    exact = λ z. (
      λ has. elim (from_folded points [] z has) [ inl none ↦ absurd (not_empty z none) | inr there ↦ takes z there ],
      λ both. to_folded Takes apart points [] z (λ y none. absurd (not_empty y none)) takes (inr (has_all z both)),
    );
  }

  ranges : (z : Timed) → Contains points z → (p r : ℕ) → z.point ≡ Writes p r → (1 ≤ r) × (r ≤ room.spec.rounds)
  ranges z has p r same = by_effect z.point (takes z has).1 same
    where
      by_effect : (point : Point) → TakesEffect room.spec schedule (replay_fields room.spec (opening_fields room.spec) schedule) z.time point → point ≡ Writes p r → (1 ≤ r) × (r ≤ room.spec.rounds)
      by_effect point (write_counted q s low less now) is =
          let round : s ≡ r = cc in
          let grown = timeline.grows (z.time + 1) (length schedule) q (omega (arith, (takes z has).0)) (omega arith) low in
          let few = most q low in
          let end = timeline.ends q in
          (omega (arith, less, round), omega (arith, round, now, grown, end, few))
      by_effect point (snapshot_read q s passed read) is = absurd cc
      by_effect point (decision_stored q decision low none now decided) is = absurd cc

  events_are : events_by_time room notes ≡ map (timed_event src) in_order
  events_are =
      ap (fold (put_in room) []) (same_points room limits one notes (processes room.spec) (omega arith))
      ∙ folded_same (source_of room.spec (read_of room)) src points [] (λ x has. same_event room limits one schedule x.time x.point (ranges x has) (takes x has).1)
      ∙ events_folded src points []

  pub is_in_order : AreEventsAtSteps room.spec schedule (events_by_time room notes)
  is_in_order =
      subst (λ (f : Fields). (points : List Timed) × IsLinearization room.spec schedule f points × (events_by_time room notes ≡ map (timed_event (source_of room.spec f)) points)) (sym leads) (in_order, is_linearization, events_are)

  -- ---- its events

  aside_linearization : IsLinearization room.spec schedule counted_fields in_order
  aside_linearization = record {
    rising = is_linearization.rising;
    exact = λ z. (
      λ has. let both = (is_linearization.exact z).0 has in (both.0, to_aside room.spec schedule final counted_fields.quiet z.time z.point both.1),
      λ both. (is_linearization.exact z).1 (both.0, from_aside room.spec schedule final counted_fields.quiet z.time z.point both.1),
    );
  }

  only_events : (xs : List Timed) → map (λ (e : ℕ × Event). e.1) (map (timed_event src) xs) ≡ events_in src xs
  only_events [] = refl
  only_events (x ∷ xs) = ap (λ (l : List Event). event_of src x.point ∷ l) (only_events xs)

  its_events : map (λ (e : ℕ × Event). e.1) (events_by_time room notes) ≡ events_in (source_of room.spec counted_fields) in_order
  its_events = ap (map (λ (e : ℕ × Event). e.1)) events_are ∙ only_events in_order

  pub order_runs : (fields : Fields) → AreFieldsOf room fields → IsRun (run_spec room.spec fields) (map (λ (e : ℕ × Event). e.1) (events_by_time room notes))
  order_runs fields fields_of =
      subst (λ (s : RoomSpec). IsRun s (map (λ (e : ℕ × Event). e.1) (events_by_time room notes))) (sym (run_in room counted_fields limits fields_are) ∙ run_in room fields limits fields_of)
      (subst (IsRun (run_spec room.spec counted_fields)) (sym its_events) (linearization_run room counted_fields limits fields_are in_order aside_linearization))

  pub ordinary_order_runs : is_reduction room.spec ≡ false → IsRun room.spec (map (λ (e : ℕ × Event). e.1) (events_by_time room notes))
  ordinary_order_runs is = subst (IsRun room.spec) (sym its_events) (ordinary_linearization_run room counted_fields limits fields_are is in_order aside_linearization)

  pub same_of_each : (fields : Fields) → AreFieldsOf room fields → (p : ℕ) → p < processes room.spec → LackAtMostASnapshot p (events_of p (history_of room.spec fields)) (events_of p (map (λ (e : ℕ × Event). e.1) (events_by_time room notes)))
  same_of_each fields fields_of p low =
      subst (λ (events : List Event). LackAtMostASnapshot p (events_of p events) (events_of p (map (λ (e : ℕ × Event). e.1) (events_by_time room notes)))) (sym (history_in room counted_fields limits fields_are) ∙ history_in room fields limits fields_of)
      (subst (λ (events : List Event). LackAtMostASnapshot p (events_of p (history_of room.spec counted_fields)) (events_of p events)) (sym its_events)
      (linearization_events room counted_fields limits fields_are in_order aside_linearization p low))
