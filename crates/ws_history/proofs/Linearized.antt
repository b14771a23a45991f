-- The history of a room in the order of time is a run.
use Rattle.std.proofs.Common.{subst, length, map, List, ◌≡◌, ℕ, ◌<◌, cond, eqb, Bool, true, false, Option, Some, None, refl, sym, ap, ◌∙◌, inl, inr}
use Rattle.std.proofs.lemmas.Bool.{cases_Bool, eq-eqb, eqb-true}
use Rattle.room_spec.specs.Rooms.{IsWithinLimits, RoomSpec, is_reduction, processes}
use Rattle.transcript.specs.Runs.{IsRun}
use Rattle.room_core.specs.Calls.{RoomState}
use Rattle.room_core.specs.Fields.{Fields}
use Rattle.room_core.specs.Reading.{AreFieldsOf}
use Rattle.room_core.specs.Agreements.{decided_in, greatest_step, run_spec}
use Rattle.room_core.specs.Points.{AreEffects, points_at}
use Rattle.room_core.specs.Timelines.{IsTimeline, timeline_of}
use Rattle.room_core.proofs.CallerLemmas.{effects_at, rooms_agree, timelines}
use Rattle.ws_history.specs.Sources.{fixed_source_of, source_of, history_of}
use Rattle.ws_history.specs.Linearizations.{LackAtMostASnapshot, IsLinearization, IsSourceOf, Timed, event_of, events_before, events_in, events_of, linearized}
use Rattle.ws_history.proofs.RunSpecs.{history_run, low_in_run, ordinary_run, processes_run, rounds_run}
use Rattle.ws_history.proofs.SourceIs.{is_of_fixed}
use Rattle.ws_history.proofs.FixedHistories.{history_begins, map_events, same_before}
use Rattle.ws_history.specs.Histories.{history_from}
use Rattle.transcript.specs.declared.event.Event.{Event}
use Rattle.ws_history.proofs.Linearizing.{timeline_is_run}
use Rattle.ws_history.proofs.SameEvents.{same_events}
use Rattle.ws_history.proofs.Unique.{events_are, is_one, only_one, timed_before}

none_either : (b : Bool) (o : Option ℕ) → o ≡ None → cond b o None ≡ None
none_either true o none = none
none_either false o none = refl

last_either : (g r decision : ℕ) (o : Option ℕ) → cond (eqb g r) o None ≡ Some decision → g ≡ r
last_either g r decision o is = elim (cases_Bool (eqb g r)) [
  | inl same ↦ eqb-true g r same
  | inr apart ↦ absurd (let wrong : None ≡ Some decision = ap (λ (b : Bool). cond b o None) (sym apart) ∙ is in cc)
]

module _ (room : RoomState) (fields : Fields) (limits : IsWithinLimits room.spec) (are : AreFieldsOf room fields) where
  abbrev Linearizes : List Timed → Type 0
  Linearizes points = IsLinearization room.spec are.run.schedule fields points

  is : IsTimeline (processes room.spec) room.spec.rounds (timeline_of room.spec are.run.schedule fields) (points_at room.spec are.run.schedule fields)
  is = timelines room fields limits are

  pub of_history : IsSourceOf (processes room.spec) (source_of room.spec fields) (timeline_of room.spec are.run.schedule fields)
  of_history = record {
    greatest = λ p low. sym (is.ends p);
    row = λ p r. refl;
    decision = λ p decision low decided.
        ap (λ (b : Bool). cond b (decided_in room.spec fields p) None) (eq-eqb (greatest_step room.spec fields p) _ (sym (is.ends p))) ∙ decided;
    undecided = λ p r none. none_either (eqb (greatest_step room.spec fields p) r) (decided_in room.spec fields p) none;
    decides_last = λ p r decision is'. last_either (greatest_step room.spec fields p) r decision (decided_in room.spec fields p) is';
  }

  of_fixed : IsSourceOf (processes room.spec) (fixed_source_of room.spec fields) (timeline_of room.spec are.run.schedule fields)
  of_fixed = record { greatest = of_history.greatest; row = of_history.row; decision = of_history.decision; undecided = of_history.undecided; decides_last = of_history.decides_last }

  abbrev fixed_events : List Event
  fixed_events = events_before (λ t. map (event_of (fixed_source_of room.spec fields)) (points_at room.spec are.run.schedule fields t)) (length are.run.schedule)

  same_as_fixed : fixed_events ≡ linearized room.spec are.run.schedule fields
  same_as_fixed = same_before _ _ (length are.run.schedule) (λ t. map_events room.spec fields (points_at room.spec are.run.schedule fields t))

  -- the ordinary room of the run
  abbrev run : RoomSpec
  run = run_spec room.spec fields

  timeline_in_run : IsTimeline (processes run) run.rounds (timeline_of room.spec are.run.schedule fields) (points_at room.spec are.run.schedule fields)
  timeline_in_run =
      subst (λ (n : ℕ). IsTimeline n run.rounds (timeline_of room.spec are.run.schedule fields) (points_at room.spec are.run.schedule fields)) (sym (processes_run room.spec fields))
      (subst (λ (r : ℕ). IsTimeline (processes room.spec) r (timeline_of room.spec are.run.schedule fields) (points_at room.spec are.run.schedule fields)) (sym (rounds_run room.spec fields)) (timelines room fields limits are))

  fixed_in_run : IsSourceOf (processes run) (fixed_source_of room.spec fields) (timeline_of room.spec are.run.schedule fields)
  fixed_in_run = subst (λ (n : ℕ). IsSourceOf n (fixed_source_of room.spec fields) (timeline_of room.spec are.run.schedule fields)) (sym (processes_run room.spec fields)) of_fixed

  pub linearized_run : IsRun (run_spec room.spec fields) (linearized room.spec are.run.schedule fields)
  linearized_run =
      subst (IsRun run) same_as_fixed
      (timeline_is_run run (fixed_source_of room.spec fields) (timeline_of room.spec are.run.schedule fields) (points_at room.spec are.run.schedule fields) (is_of_fixed room.spec fields (rooms_agree room fields limits are)) timeline_in_run fixed_in_run)

  pub ordinary_linearized_run : is_reduction room.spec ≡ false → IsRun room.spec (linearized room.spec are.run.schedule fields)
  ordinary_linearized_run is = subst (λ (s : RoomSpec). IsRun s (linearized room.spec are.run.schedule fields)) (ordinary_run room.spec fields is) linearized_run

  -- each process does what it does in the history of the fixed agreements
  pub linearized_fixed : (p : ℕ) → p < processes room.spec → events_of p (linearized room.spec are.run.schedule fields) ≡ events_of p (history_from room.spec (fixed_source_of room.spec fields))
  linearized_fixed p low =
      ap (events_of p) (sym same_as_fixed)
      ∙ same_events run (fixed_source_of room.spec fields) (timeline_of room.spec are.run.schedule fields) (points_at room.spec are.run.schedule fields) (is_of_fixed room.spec fields (rooms_agree room fields limits are)) timeline_in_run fixed_in_run p (low_in_run room.spec fields p low)
      ∙ ap (events_of p) (history_run room.spec fields (fixed_source_of room.spec fields))

  pub linearized_events : (p : ℕ) → p < processes room.spec → LackAtMostASnapshot p (events_of p (history_of room.spec fields)) (events_of p (linearized room.spec are.run.schedule fields))
  linearized_events p low =
      subst (LackAtMostASnapshot p (events_of p (history_of room.spec fields))) (sym (linearized_fixed p low)) (history_begins room.spec fields (rooms_agree room fields limits are) p low)

  room_effects : (time : ℕ) → time < length are.run.schedule → AreEffects room.spec are.run.schedule fields time (points_at room.spec are.run.schedule fields time)
  room_effects time early = effects_at room fields limits are time early

  -- there is one linearization
  pub has_linearization : (points : List Timed) × Linearizes points
  has_linearization = (timed_before (points_at room.spec are.run.schedule fields) (length are.run.schedule), is_one room.spec are.run.schedule fields (points_at room.spec are.run.schedule fields) room_effects)

  pub is_linearized : (points : List Timed) → Linearizes points → events_in (source_of room.spec fields) points ≡ linearized room.spec are.run.schedule fields
  is_linearized points is =
      ap (events_in (source_of room.spec fields)) (only_one room.spec are.run.schedule fields (points_at room.spec are.run.schedule fields) room_effects points is)
      ∙ events_are (source_of room.spec fields) (points_at room.spec are.run.schedule fields) (length are.run.schedule)

  pub linearization_run : (points : List Timed) → Linearizes points → IsRun (run_spec room.spec fields) (events_in (source_of room.spec fields) points)
  linearization_run points is = subst (IsRun run) (sym (is_linearized points is)) linearized_run

  pub ordinary_linearization_run : is_reduction room.spec ≡ false → (points : List Timed) → Linearizes points → IsRun room.spec (events_in (source_of room.spec fields) points)
  ordinary_linearization_run ordinary points is = subst (IsRun room.spec) (sym (is_linearized points is)) (ordinary_linearized_run ordinary)

  pub linearization_events : (points : List Timed) → Linearizes points → (p : ℕ) → p < processes room.spec → LackAtMostASnapshot p (events_of p (history_of room.spec fields)) (events_of p (events_in (source_of room.spec fields) points))
  linearization_events points is p low =
      subst (λ (events : List Event). LackAtMostASnapshot p (events_of p (history_of room.spec fields)) (events_of p events)) (sym (is_linearized points is)) (linearized_events p low)
