-- What is decided, event by event.
use Rattle.std.proofs.Common.{◌≡◌, ◌≢◌, ◌∙◌, ℕ, ◌+◌, ◌<◌, ◌≤◌, Bool, true, false, List, [], ◌∷◌, ◌++◌, length, take, set, get_or, Option, None, Some, refl, sym, ap, subst, arith, inl, inr, take-take, take_all}
use Rattle.std.specs.Prelude.{slice_get}
use Rattle.std.proofs.lemmas.Bool.{cases_eq, cases_lt}
use Rattle.std.proofs.lemmas.List.{get_or-map, get_or-replicate, get_or-set_other, get_or-set_same, length-map, length-replicate, length-set, length-take, same_lists, take_more}
use Rattle.std.proofs.lemmas.List.FromFn.{get_or-map-range_with_len, length-map-range_with_len}
use Rattle.std.proofs.lemmas.Option.{get_or_from_slice_get, slice_get_within}
use Rattle.protocol_lang.specs.declared.meaning.Action.{Action}
use Rattle.protocol_lang.specs.declared.meaning.Action.TheVariants as actions
use Rattle.protocol_lang.specs.Trees.{Tree}
use Rattle.room_spec.specs.Rooms.{RoomSpec, processes}
use Rattle.transcript.specs.declared.event.Event.{Event}
use Rattle.transcript.specs.declared.event.Event.TheVariants as events
use Rattle.transcript.specs.Runs.{event_by, latest, process_of}
use Rattle.transcript.specs.Tasks as tasks
use Rattle.transcript.proofs.CallerLemmas.{if_same, latest-push, quiet}
use Rattle.run_search.specs.declared.ended.Ended.TheVariants.{Stopped}
use Rattle.run_search.specs.Outcomes.{ended, outcome_of}
use Rattle.run_search.specs.States.{due_after, due_of}
use Rattle.decision_tasks.specs.Decisions.{decided_by, decision, decisions, none_decided, noted}
use Rattle.decision_tasks.specs.Tasks.{AreAllowed, KeepsDecisions}

-- ---- one process

-- what a process has decided whose last event this is
abbrev last_decided : Option Event → Option ℕ
last_decided None = None
last_decided (Some event) = tasks.decided_by event

by_due : (left : Bool) (action : Action) (last : Option Event) → decision (ended (due_after left action last)) ≡ last_decided last
by_due true (actions.Write v) None = refl
by_due false (actions.Write v) None = refl
by_due true (actions.Decide v) None = refl
by_due false (actions.Decide v) None = refl
by_due left action (Some (events.Write p v)) = refl
by_due true (actions.Write v) (Some (events.Snap p row)) = refl
by_due false (actions.Write v) (Some (events.Snap p row)) = refl
by_due true (actions.Decide v) (Some (events.Snap p row)) = refl
by_due false (actions.Decide v) (Some (events.Snap p row)) = refl
by_due left action (Some (events.Decide p v)) = refl

-- what process p has decided after these events
abbrev own : List Event → ℕ → Option ℕ
own history p = last_decided (latest (event_by p) history)

own_push : (history : List Event) (event : Event) → own (history ++ event ∷ []) (process_of event) ≡ tasks.decided_by event
own_push history event = rw (latest-push (event_by (process_of event)) history event, if_same (process_of event) event) refl

other_push : (history : List Event) (event : Event) (q : ℕ) → process_of event ≢ q → own (history ++ event ∷ []) q ≡ own history q
other_push history event q ne = rw (latest-push (event_by q) history event, (quiet q event ne).event) refl

-- ---- all processes

pub length_decided : (spec : RoomSpec) (history : List Event) → length (decisions (outcome_of spec history)) ≡ processes spec
length_decided spec history = length-map (outcome_of spec history) decision ∙ length-map-range_with_len (λ (p : ℕ). ended (due_of spec history p)) 0 (processes spec)

decided_there : (spec : RoomSpec) (history : List Event) (p : ℕ) (d : Option ℕ) → p < processes spec → get_or (decisions (outcome_of spec history)) p d ≡ own history p
decided_there spec history p d below =
    get_or-map decision (outcome_of spec history) p Stopped d (omega (arith, below, length-map-range_with_len (λ (q : ℕ). ended (due_of spec history q)) 0 (processes spec)))
    ∙ ap decision (get_or-map-range_with_len (λ (q : ℕ). ended (due_of spec history q)) 0 (processes spec) p p Stopped below (omega arith))
    ∙ by_due _ _ (latest (event_by p) history)

pub none_at_start : (spec : RoomSpec) → decisions (outcome_of spec []) ≡ none_decided (processes spec)
none_at_start spec =
    same_lists (decisions (outcome_of spec [])) (none_decided (processes spec)) (length_decided spec [] ∙ sym (length-replicate (processes spec) None))
    (λ k d below.
    let there : k < processes spec = omega (arith, below, length_decided spec []) in
    decided_there spec [] k d there ∙ sym (get_or-replicate (processes spec) k None d there))

noted_push : (spec : RoomSpec) (history : List Event) (event : Event) → decisions (outcome_of spec (history ++ event ∷ [])) ≡ noted (decisions (outcome_of spec history)) event
noted_push spec history event =
    let p = process_of event in
    let old = decisions (outcome_of spec history) in
    let new = decisions (outcome_of spec (history ++ event ∷ [])) in
    let value = tasks.decided_by event in
    same_lists new (set old p value) (length_decided spec (history ++ event ∷ []) ∙ sym (length_decided spec history) ∙ sym (length-set old p value))
    (λ k d below.
    let there : k < processes spec = omega (arith, below, length_decided spec (history ++ event ∷ [])) in
    decided_there spec (history ++ event ∷ []) k d there ∙ elim (cases_eq p k) [
      | inl equal ↦
          subst (λ (q : ℕ). own (history ++ event ∷ []) q ≡ get_or (set old p value) q d) equal
          (own_push history event ∙ sym (get_or-set_same old p value d (omega (arith, there, equal, length_decided spec history))))
      | inr other ↦ other_push history event k other ∙ sym (decided_there spec history k d there) ∙ sym (get_or-set_other old p k value d (λ e. other (sym e)))
    ])

-- ---- one event more of a list

took : (events : List Event) (at : ℕ) (event : Event) → slice_get events at ≡ Some event → take (at + 1) events ≡ take at events ++ event ∷ []
took events at event is =
    take_more events at event (slice_get_within events at event is) ∙ ap (λ (e : Event). take at events ++ e ∷ []) (get_or_from_slice_get events at event event is)

pub decided_more : (spec : RoomSpec) (events : List Event) (at : ℕ) (event : Event) → slice_get events at ≡ Some event → decided_by spec events (at + 1) ≡ noted (decided_by spec events at) event
decided_more spec events at event is = ap (λ (history : List Event). decisions (outcome_of spec history)) (took events at event is) ∙ noted_push spec (take at events) event

none_there : (n k v : ℕ) → slice_get (none_decided n) k ≡ Some (Some v) → ⊥
none_there n k v is =
    let within = slice_get_within (none_decided n) k (Some v) is in
    let below : k < n = omega (arith, within, length-replicate {A = Option ℕ} n None) in
    let none : None ≡ Some v = sym (get_or-replicate n k None None below) ∙ get_or_from_slice_get (none_decided n) k (Some v) None is in
    absurd cc

-- before the first event the task is kept
pub kept_at_start : (lines : List Tree) (spec : RoomSpec) → KeepsDecisions lines spec []
kept_at_start lines spec t p v is = absurd (none_there (processes spec) p v (ap (λ (all : List (Option ℕ)). slice_get all p) (sym (none_at_start spec)) ∙ ap (λ (history : List Event). slice_get (decisions (outcome_of spec history)) p) (sym (take_all t [] (omega arith))) ∙ is))

-- what is decided at the end of the first events
at_end : (spec : RoomSpec) (events : List Event) (at t : ℕ) → at ≤ t → decided_by spec (take at events) t ≡ decided_by spec events at
at_end spec events at t past = ap (λ (history : List Event). decisions (outcome_of spec history)) (take_all t (take at events) (omega (arith, past, length-take at events)))

before_end : (spec : RoomSpec) (events : List Event) (at t : ℕ) → t ≤ at → decided_by spec (take at events) t ≡ decided_by spec events t
before_end spec events at t early = ap (λ (history : List Event). decisions (outcome_of spec history)) (take-take t at events early)

pub allowed_now : (lines : List Tree) (spec : RoomSpec) (events : List Event) (at : ℕ) → KeepsDecisions lines spec (take at events) → AreAllowed lines spec.inputs (decided_by spec events at)
allowed_now lines spec events at kept = subst (AreAllowed lines spec.inputs) (at_end spec events at at (omega arith)) (kept at)

-- the first events keep the task, if those before the last of them do, and what is decided then is allowed
pub kept_more : (lines : List Tree) (spec : RoomSpec) (events : List Event) (at : ℕ) → KeepsDecisions lines spec (take at events) → AreAllowed lines spec.inputs (decided_by spec events (at + 1)) → KeepsDecisions lines spec (take (at + 1) events)
kept_more lines spec events at kept allowed t = elim (cases_lt at t) [
  | inl past ↦ subst (AreAllowed lines spec.inputs) (sym (at_end spec events (at + 1) t (omega (arith, past)))) allowed
  | inr early ↦ subst (AreAllowed lines spec.inputs) (before_end spec events at t (omega (arith, early)) ∙ sym (before_end spec events (at + 1) t (omega (arith, early)))) (kept t)
]

pub kept_all : (lines : List Tree) (spec : RoomSpec) (events : List Event) (at : ℕ) → length events ≤ at → KeepsDecisions lines spec (take at events) → KeepsDecisions lines spec events
kept_all lines spec events at past kept = subst (KeepsDecisions lines spec) (take_all at events past) kept
