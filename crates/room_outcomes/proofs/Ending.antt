-- What becomes of a room is the outcome of its history.
use Rattle.std.proofs.Common.{◌≡◌, ℕ, ◌+◌, ◌<◌, ◌≤◌, Bool, true, false, cond, List, [], ◌∷◌, length, refl, sym, ap, ◌∙◌, subst, arith}
use Rattle.std.specs.List.{count_by}
use Rattle.std.proofs.lemmas.List.{get_or-map, length-map}
use Rattle.std.proofs.lemmas.List.FromFn.{fill_by_all, get_or-map-range_with_len, length-map-range_with_len}
use Rattle.std.proofs.lemmas.List.Sums.{sum_by-cons}
use Rattle.room_spec.specs.Rooms.{IsWithinLimits, RoomSpec, is_reduction, processes}
use Rattle.transcript.specs.Runs.{IsRun}
use Rattle.room_core.specs.Agreements.{run_spec}
use Rattle.room_core.specs.Calls.{RoomState}
use Rattle.room_core.specs.Fields.{Fields}
use Rattle.room_core.specs.Reading.{AreFieldsOf}
use Rattle.room_core.specs.Settled.{IsSettledFor, crashed_in}
use Rattle.room_core.proofs.CallerLemmas.{rooms_agree}
use Rattle.ws_history.specs.declared.states.ProcessState.{ProcessState}
use Rattle.ws_history.specs.declared.states.ProcessState.TheVariants as states
use Rattle.ws_history.specs.Reports.{is_over, state_of, states_of}
use Rattle.ws_history.specs.Sources.{history_of}
use Rattle.ws_history.proofs.CallerLemmas.{decided_there, fields_run, inputs, low_of_run, most_are_over, ordinary_run, processes_run, reduction_run, run_from_own, spent_there}
use Rattle.run_search.specs.declared.ended.Ended.{Ended}
use Rattle.run_search.specs.declared.ended.Ended.TheVariants.{Stopped}
use Rattle.run_search.specs.declared.local_state.Due.{Due}
use Rattle.run_search.specs.declared.local_state.Due.TheVariants as dues
use Rattle.run_search.specs.States.{due_of}
use Rattle.run_search.specs.Outcomes.{IsRunOutcome, ended, is_stopped, outcome_of}
use Rattle.run_search.proofs.CallerLemmas.{decided_due, spent_due, spent_parts}
use Rattle.run_search.proofs.CallerLemmas.{decided_there as decides_there}
use Rattle.transcript.specs.Reductions.{AreFromOwn}
use Rattle.room_outcomes.specs.Ends.{IsOutcomeBy, IsRoomOutcome, end_of, ends_of}

not_decided_spent : (v : ℕ) → states.Spent ≡ states.Decided v → ⊥
not_decided_spent v is = cc

stops : (due : Due) → ((v : ℕ) → due ≡ dues.Decided v → ⊥) → (due ≡ dues.Spent → ⊥) → Stopped ≡ ended due
stops (dues.Write v) decided spent = refl
stops dues.Snap decided spent = refl
stops (dues.Decide v) decided spent = refl
stops (dues.Decided v) decided spent = absurd (decided v refl)
stops dues.Spent decided spent = absurd (spent refl)

module _ (room : RoomState) (fields : Fields) (limits : IsWithinLimits room.spec) (are : AreFieldsOf room fields) where
  -- the ordinary room of which the history is a run
  abbrev of_run : RoomSpec
  of_run = run_spec room.spec fields

  run : IsRun (run_spec room.spec fields) (history_of room.spec fields)
  run = fields_run room.spec fields (rooms_agree room fields limits are)

  module _ (j : ℕ) (low : j < processes room.spec) where
    -- a process of which something is left to do
    going : (state : ProcessState) → state_of room.spec fields j ≡ state → ((v : ℕ) → state ≡ states.Decided v → ⊥) → (state ≡ states.Spent → ⊥) → Stopped ≡ ended (due_of of_run (history_of room.spec fields) j)
    going state is undecided unspent =
        let spec = of_run in
        let history = history_of room.spec fields in
        stops (due_of spec history j)
        (λ v due. undecided v (sym is ∙ (decided_there room fields limits are j v low).1 (decides_there spec history j v due)))
        (λ due. unspent (sym is ∙ (spent_there room fields limits are j low).1 (spent_parts spec history j run due)))

    end_is : (state : ProcessState) → state_of room.spec fields j ≡ state → end_of state ≡ ended (due_of of_run (history_of room.spec fields) j)
    end_is (states.Decided v) is = ap ended (sym (decided_due of_run (history_of room.spec fields) j v run ((decided_there room fields limits are j v low).0 is)))
    end_is states.Spent is =
        let none = (spent_there room fields limits are j low).0 is in
        ap ended (sym (spent_due of_run (history_of room.spec fields) j none.value run none.writes none.snaps none.asked (λ v there. not_decided_spent v (sym is ∙ (decided_there room fields limits are j v low).1 there))))
    end_is (states.Held i) is = going (states.Held i) is (λ v e. absurd cc) (λ e. absurd cc)
    end_is states.Going is = going states.Going is (λ v e. absurd cc) (λ e. absurd cc)

  pub ends_are : ends_of (states_of room.spec fields) ≡ outcome_of (run_spec room.spec fields) (history_of room.spec fields)
  ends_are =
      let n = processes room.spec in
      let all = states_of room.spec fields in
      let long = length-map-range_with_len (state_of room.spec fields) 0 n in
      fill_by_all (λ (j : ℕ). ended (due_of of_run (history_of room.spec fields) j)) (ends_of all) (processes of_run) Stopped (length-map all end_of ∙ long ∙ sym (processes_run room.spec fields))
      (λ j within.
      let below = low_of_run room.spec fields j within in
      get_or-map end_of all j states.Going Stopped (omega (arith, below, long)) ∙ ap end_of (get_or-map-range_with_len (state_of room.spec fields) 0 n j j states.Going below (omega arith)) ∙ end_is j below (state_of room.spec fields j) refl)

  pub is_outcome : (crashes : ℕ) → count_by is_stopped (ends_of (states_of room.spec fields)) ≤ crashes → IsRunOutcome (run_spec room.spec fields) crashes (ends_of (states_of room.spec fields))
  is_outcome crashes few = record { events = history_of room.spec fields; run = run; few = few; outcome_is = ends_are }

one_each : (state : ProcessState) → cond {A = ℕ} (is_stopped (end_of state)) 1 0 + cond {A = ℕ} (is_over state) 1 0 ≡ 1
one_each (states.Decided v) = refl
one_each states.Spent = refl
one_each (states.Held i) = refl
one_each states.Going = refl

all_counted : (all : List ProcessState) → count_by is_stopped (ends_of all) + count_by is_over all ≡ length all
all_counted [] = refl
all_counted (state ∷ all) =
    let rest = all_counted all in
    let one = one_each state in
    let stopped = sum_by-cons (λ (e : Ended). cond {A = ℕ} (is_stopped e) 1 0) (end_of state) (ends_of all) in
    let over = sum_by-cons (λ (s : ProcessState). cond {A = ℕ} (is_over s) 1 0) state all in
    omega (arith, rest, one, stopped, over)

module _ (room : RoomState) (fields : Fields) (limits : IsWithinLimits room.spec) (are : AreFieldsOf room fields) where
  pub reported_outcome : IsRunOutcome (run_spec room.spec fields) (processes room.spec) (ends_of (states_of room.spec fields))
  reported_outcome =
      let count = all_counted (states_of room.spec fields) in
      let long = length-map-range_with_len (state_of room.spec fields) 0 (processes room.spec) in
      is_outcome room fields limits are (processes room.spec) (omega (arith, count, long))

module _ (room : RoomState) (fields : Fields) (limits : IsWithinLimits room.spec) (are : AreFieldsOf room fields) (settled : (j : ℕ) → j < processes room.spec → IsSettledFor room.spec fields j) where
  pub settled_outcome : IsRunOutcome (run_spec room.spec fields) (length (crashed_in room.spec fields)) (ends_of (states_of room.spec fields))
  settled_outcome =
      let most = most_are_over room fields limits are settled in
      let count = all_counted (states_of room.spec fields) in
      let long = length-map-range_with_len (state_of room.spec fields) 0 (processes room.spec) in
      is_outcome room fields limits are (length (crashed_in room.spec fields)) (omega (arith, most, count, long))

-- ---- ordinary rooms

module _ (room : RoomState) (fields : Fields) (limits : IsWithinLimits room.spec) (are : AreFieldsOf room fields) (ordinary : is_reduction room.spec ≡ false) where
  pub ordinary_ends : ends_of (states_of room.spec fields) ≡ outcome_of room.spec (history_of room.spec fields)
  ordinary_ends = ends_are room fields limits are ∙ ap (λ (s : RoomSpec). outcome_of s (history_of room.spec fields)) (ordinary_run room.spec fields ordinary)

  -- an outcome of the run is one of the room
  pub ordinary_of : (crashes : ℕ) → IsRunOutcome (run_spec room.spec fields) crashes (ends_of (states_of room.spec fields)) → IsRunOutcome room.spec crashes (ends_of (states_of room.spec fields))
  ordinary_of crashes = subst (λ (s : RoomSpec). IsRunOutcome s crashes (ends_of (states_of room.spec fields))) (ordinary_run room.spec fields ordinary)

  pub ordinary_outcome : IsRunOutcome room.spec (processes room.spec) (ends_of (states_of room.spec fields))
  ordinary_outcome = ordinary_of (processes room.spec) (reported_outcome room fields limits are)

-- ---- rooms of both kinds

-- an outcome of the run is one of the room's
pub room_outcome : (room : RoomState) (fields : Fields) → IsWithinLimits room.spec → AreFieldsOf room fields → (crashes : ℕ) → IsRunOutcome (run_spec room.spec fields) crashes (ends_of (states_of room.spec fields)) → IsRoomOutcome room.spec crashes (ends_of (states_of room.spec fields))
room_outcome room fields limits are crashes is = by_kind (is_reduction room.spec) refl
  where
    by_kind : (b : Bool) → is_reduction room.spec ≡ b → IsOutcomeBy b room.spec crashes (ends_of (states_of room.spec fields))
    by_kind false kind = ordinary_of room fields limits are kind crashes is
    by_kind true kind =
        let same = reduction_run room.spec fields kind in (
          inputs room.spec fields,
          subst (λ (s : RoomSpec). AreFromOwn room.spec s.inputs) same (run_from_own room.spec fields (rooms_agree room fields limits are) kind),
          subst (λ (s : RoomSpec). IsRunOutcome s crashes (ends_of (states_of room.spec fields))) same is,
        )

pub reported_room_outcome : (room : RoomState) (fields : Fields) → IsWithinLimits room.spec → AreFieldsOf room fields → IsRoomOutcome room.spec (processes room.spec) (ends_of (states_of room.spec fields))
reported_room_outcome room fields limits are = room_outcome room fields limits are (processes room.spec) (reported_outcome room fields limits are)
