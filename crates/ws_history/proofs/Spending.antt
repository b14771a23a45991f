-- A process is spent exactly where its history leaves it no round, and asks it for a write.
use Rattle.std.proofs.Common.{◌≡◌, ◌↔◌, ℕ, ◌-◌, ◌<◌, ◌≤◌, Bool, true, false, not, List, Option, Some, None, refl, sym, ap, ◌∙◌, subst, arith, inl, inr}
use Rattle.std.specs.List.{count_by}
use Rattle.std.specs.Option.{option_map, option_map_or}
use Rattle.std.specs.Prelude.{slice_index}
use Rattle.std.proofs.lemmas.Bool.{and_from, and_parts, ltb-true, or_cases, or_left}
use Rattle.protocol_lang.specs.Meaning.{first_value, next_action}
use Rattle.protocol_lang.specs.declared.meaning.Action.{Action}
use Rattle.protocol_lang.specs.declared.meaning.Action.TheVariants as actions
use Rattle.room_spec.specs.Rooms.{RoomSpec, IsWithinLimits, is_reduction, processes}
use Rattle.transcript.specs.declared.event.Event.{Event}
use Rattle.transcript.specs.Runs.{IsOutOfRounds, action_due, is_snap_by, is_write_by, latest, seen_by}
use Rattle.room_core.specs.Calls.{RoomState}
use Rattle.room_core.specs.Fields.{Fields}
use Rattle.room_core.specs.Reading.{AreFieldsOf}
use Rattle.room_core.specs.Agreements.{HasAgreed, asks, decided_in, greatest_step, is_resolved, is_out, is_passed, outs_at, run_spec}
use Rattle.room_core.proofs.CallerLemmas.{rooms_agree}
use Rattle.ws_history.specs.declared.states.ProcessState.TheVariants as states
use Rattle.ws_history.specs.Histories.{Source, IsSource, shown_row}
use Rattle.ws_history.specs.Orders.{all_passed}
use Rattle.room_core.specs.Settled.{is_write}
use Rattle.ws_history.specs.Reports.{held_by, is_spent, state_by, state_of}
use Rattle.ws_history.specs.Sources.{history_of, source_of}
use Rattle.ws_history.proofs.Alternation.{history_stands}
use Rattle.ws_history.proofs.Order.{last_is, last_round, round_most, round_there, snapshot_at}
use Rattle.ws_history.proofs.PassedSources.{is_source}
use Rattle.ws_history.proofs.RunSpecs.{history_run, low_in_run, ordinary_run, rounds_run}
use Rattle.ws_history.proofs.Settled.{any_found}
use Rattle.ws_history.proofs.Sorting.{from_order, from_passed, to_order, to_passed}
use Rattle.ws_history.proofs.SourceIs.{asks_are, decided_is, is_of_passed}
use Rattle.ws_history.proofs.Turns.{IsAt}

spent_by : (out : Option ℕ) (spent : Bool) (holder : Option ℕ) → state_by out spent holder ≡ states.Spent → (out ≡ None) × (spent ≡ true)
spent_by (Some v) spent holder is = absurd cc
spent_by None true holder is = (refl, refl)
spent_by None false (Some i) is = absurd cc
spent_by None false None is = absurd cc

a_write : (action : Action) → is_write action ≡ true → (v : ℕ) × (action ≡ actions.Write v)
a_write (actions.Write v) is = (v, refl)
a_write (actions.Decide v) is = absurd cc

not_both : (v w : ℕ) → actions.Decide v ≡ actions.Write w → ⊥
not_both v w is = cc

out_there : (out : Option ℕ) (n : ℕ) → out ≡ Some n → (v : ℕ) × (option_map (λ k. k - 1) out ≡ Some v)
out_there None n is = absurd cc
out_there (Some k) n is = (k - 1, refl)

none_or_some : (out : Option ℕ) → ((v : ℕ) → out ≡ Some v → ⊥) → out ≡ None
none_or_some None not = refl
none_or_some (Some v) not = absurd (not v refl)

-- ---- how far the history of a process goes

-- its writes and snapshots, and what is asked behind the last snapshot
record IsFar (spec : RoomSpec) (fields : Fields) (j c : ℕ) : Type 0 where
  pub writes : count_by (is_write_by j) (history_of spec fields) ≡ greatest_step spec fields j
  pub snaps : count_by (is_snap_by j) (history_of spec fields) ≡ c
  pub behind : c ≤ greatest_step spec fields j
  pub within : greatest_step spec fields j ≤ spec.rounds
  pub asked : 1 ≤ c → action_due (run_spec spec fields) (history_of spec fields) j ≡ asks spec fields j c
  pub there : 1 ≤ c → is_passed spec fields j c ≡ true
  pub most : (k : ℕ) → 1 ≤ k → k ≤ spec.rounds → is_passed spec fields j k ≡ true → k ≤ c

asked_by : (spec : RoomSpec) (src : Source) (events : List Event) (j c : ℕ) → count_by (is_snap_by j) events ≡ c → latest (seen_by j) events ≡ Some (shown_row src (snapshot_at j c))
    → action_due spec events j ≡ next_action spec.protocol (slice_index spec.inputs j) j c (shown_row src (snapshot_at j c))
asked_by spec src events j c snaps seen =
    ap (λ (row : Option (List (Option ℕ))).
    option_map_or
    (λ (r : List (Option ℕ)). next_action spec.protocol (slice_index spec.inputs j) j (count_by (is_snap_by j) events) r)
    row
    (actions.Write (first_value spec.protocol (slice_index spec.inputs j) j (processes spec)))) seen
    ∙ ap (λ (k : ℕ). next_action spec.protocol (slice_index spec.inputs j) j k (shown_row src (snapshot_at j c))) snaps

is_far : (spec : RoomSpec) (fields : Fields) → HasAgreed spec fields → (j : ℕ) → j < processes spec → IsFar spec fields j (last_round (source_of spec fields).order j)
is_far spec fields has j low =
    let src = source_of spec fields in
    let passed = is_passed spec fields in
    let run = run_spec spec fields in
    let low_there = low_in_run spec fields j low in
    let source : IsSource run src = is_source run src passed (is_of_passed spec fields has) in
    let at : IsAt run src (history_of spec fields) j (src.greatest j) (last_round src.order j) =
    subst (λ (events : List Event). IsAt run src events j (src.greatest j) (last_round src.order j)) (history_run spec fields src) ((history_stands run src source).each j low_there) in
    let last = last_is run src source in
    let c = last_round src.order j in
    let grows = last.grows j low_there in
    let behind = last.behind j in
    let within = has.steps_are_within j low in
    record {
      writes = at.writes;
      snaps = at.snaps;
      behind = omega (arith, grows, behind);
      within = within;
      asked = λ some. asked_by run src (history_of spec fields) j c at.snaps (at.seen some) ∙ asks_are spec fields (snapshot_at j c) low;
      there = λ some. (from_passed passed (processes spec) spec.rounds (snapshot_at j c) (from_order src.row (all_passed passed (processes spec) spec.rounds) (snapshot_at j c) (round_there src.order j some))).is;
      most = λ k positive few is. round_most src.order (snapshot_at j k) (to_order src.row (all_passed passed (processes spec) spec.rounds) (snapshot_at j k) (to_passed passed (processes spec) spec.rounds (snapshot_at j k) (record { process = low; positive = positive; within = few; is = is })));
    }

-- ---- the two ways

from_spent : (spec : RoomSpec) (fields : Fields) → HasAgreed spec fields → (j : ℕ) → j < processes spec → 1 ≤ spec.rounds → state_of spec fields j ≡ states.Spent → IsOutOfRounds (run_spec spec fields) (history_of spec fields) j
from_spent spec fields has j low some is =
    let both = and_parts (is_resolved spec fields j spec.rounds) (is_write (asks spec fields j spec.rounds)) (spent_by (decided_in spec fields j) (is_spent spec fields j) (held_by spec fields j) is).1 in
    let c = last_round (source_of spec fields).order j in
    let far = is_far spec fields has j low in
    let passes : is_passed spec fields j spec.rounds ≡ true = or_left _ _ (or_left _ _ both.0) in
    let most : spec.rounds ≤ c = far.most spec.rounds some (omega arith) passes in
    let all : c ≡ spec.rounds = omega (arith, most, far.behind, far.within) in
    let value = a_write (asks spec fields j spec.rounds) both.1 in
    let rounds = rounds_run spec fields in
    record {
      writes = omega (arith, rounds, far.writes, far.behind, most);
      snaps = omega (arith, rounds, far.snaps, most);
      value = value.0;
      asked = far.asked (omega (arith, all, some)) ∙ ap (asks spec fields j) all ∙ value.1;
    }

to_spent : (spec : RoomSpec) (fields : Fields) → HasAgreed spec fields → (j : ℕ) → j < processes spec → 1 ≤ spec.rounds → IsOutOfRounds (run_spec spec fields) (history_of spec fields) j → state_of spec fields j ≡ states.Spent
to_spent spec fields has j low some none =
    let rounds = rounds_run spec fields in
    let c = last_round (source_of spec fields).order j in
    let far = is_far spec fields has j low in
    let all : c ≡ spec.rounds = omega (arith, rounds, none.snaps, far.snaps, far.behind, far.within) in
    let last : greatest_step spec fields j ≡ spec.rounds = omega (arith, all, far.behind, far.within) in
    let write : asks spec fields j spec.rounds ≡ actions.Write none.value = ap (asks spec fields j) (sym all) ∙ sym (far.asked (omega (arith, all, some))) ∙ none.asked in
    let undecided : (v : ℕ) → decided_in spec fields j ≡ Some v → ⊥ = λ v is. not_both v none.value (sym (decided_is spec fields has j v low is) ∙ ap (asks spec fields j) last ∙ write) in
    let passes : is_passed spec fields j spec.rounds ≡ true = ap (is_passed spec fields j) (sym all) ∙ far.there (omega (arith, all, some)) in
    let resolved : is_resolved spec fields j spec.rounds ≡ true = elim (or_cases _ _ passes) [
      | inl early ↦ elim (or_cases _ _ early) [
        | inl is ↦ is
        | inr beyond ↦ let more = ltb-true spec.rounds (greatest_step spec fields j) beyond in absurd (omega (arith, more, last))
      ]
      | inr out ↦
          let found = any_found is_out (outs_at spec fields j) (and_parts _ _ out).0 in
          let decided = out_there _ found.0 found.1 in
          absurd (undecided decided.0 decided.1)
    ] in
    let spent : is_spent spec fields j ≡ true = and_from _ _ resolved (ap is_write write) in
    ap (λ (out : Option ℕ). state_by out (is_spent spec fields j) (held_by spec fields j)) (none_or_some (decided_in spec fields j) undecided)
    ∙ ap (λ (b : Bool). state_by None b (held_by spec fields j)) spent

module _ (room : RoomState) (fields : Fields) (limits : IsWithinLimits room.spec) (are : AreFieldsOf room fields) (j : ℕ) (low : j < processes room.spec) where
  pub spent_there : (state_of room.spec fields j ≡ states.Spent) ↔ IsOutOfRounds (run_spec room.spec fields) (history_of room.spec fields) j
  spent_there =
      let has = rooms_agree room fields limits are in
      let some = limits.shape.rounds_range.0 in
      (from_spent room.spec fields has j low some, to_spent room.spec fields has j low some)

  pub ordinary_spent_there : is_reduction room.spec ≡ false → (state_of room.spec fields j ≡ states.Spent) ↔ IsOutOfRounds room.spec (history_of room.spec fields) j
  ordinary_spent_there is = subst (λ (s : RoomSpec). (state_of room.spec fields j ≡ states.Spent) ↔ IsOutOfRounds s (history_of room.spec fields) j) (ordinary_run room.spec fields is) spent_there
