-- What was decided at a moment of a run is an outcome of one.
use Rattle.std.proofs.Common.{◌≡◌, ◌∙◌, ℕ, ◌<◌, ◌≤◌, List, Option, None, Some, Contains, length, take, refl, sym, ap, subst, arith, take-take, take_all}
use Rattle.std.specs.Prelude.{IfNone, slice_get}
use Rattle.std.specs.List.{All, count_by}
use Rattle.std.proofs.lemmas.List.{length-take}
use Rattle.std.proofs.lemmas.List.Elements.{All-contains}
use Rattle.std.proofs.lemmas.List.FromFn.{length-map-range_with_len}
use Rattle.std.proofs.lemmas.List.Sums.{count_by-le-length}
use Rattle.std.proofs.lemmas.Option.{get_or_from_slice_get, slice_get_within}
use Rattle.protocol_lang.specs.Trees.{Tree}
use Rattle.room_spec.specs.Rooms.{RoomSpec, processes}
use Rattle.transcript.specs.declared.event.Event.{Event}
use Rattle.transcript.specs.Runs.{IsEnabled, IsRun}
use Rattle.transcript.proofs.CallerLemmas.{slice_get-take}
use Rattle.run_search.specs.declared.ended.Ended.{Ended}
use Rattle.run_search.specs.Outcomes.{IsRunOutcome, ended, is_stopped, outcome_of}
use Rattle.run_search.specs.States.{due_of}
use Rattle.decision_tasks.specs.Decisions.{decided_by, decisions}
use Rattle.decision_tasks.specs.Tasks.{AreAllowed, KeepsDecisions}

-- the first events of a run are one
beginning : (spec : RoomSpec) (events : List Event) (t : ℕ) → IsRun spec events → IsRun spec (take t events)
beginning spec events t run i event is =
    let within = slice_get_within (take t events) i event is in
    let below : i < t = omega (arith, within, length-take t events) in
    subst (λ (before : List Event). IsEnabled spec before event) (sym (take-take i t events (omega (arith, below)))) (run i event (sym (slice_get-take events t i below) ∙ is))

ends_of_all : (spec : RoomSpec) (events : List Event) → length (outcome_of spec events) ≡ processes spec
ends_of_all spec events = length-map-range_with_len (λ (p : ℕ). ended (due_of spec events p)) 0 (processes spec)

few : (spec : RoomSpec) (events : List Event) → count_by is_stopped (outcome_of spec events) ≤ processes spec
few spec events = subst (λ (n : ℕ). count_by is_stopped (outcome_of spec events) ≤ n) (ends_of_all spec events) (count_by-le-length is_stopped (outcome_of spec events))

moment : (spec : RoomSpec) (events : List Event) (t : ℕ) → IsRun spec events → IsRunOutcome spec (processes spec) (outcome_of spec (take t events))
moment spec events t run = record { events = take t events; run = beginning spec events t run; few = few spec (take t events); outcome_is = refl }

-- if each outcome is allowed, each run keeps the task
pub each_moment : (lines : List Tree) (spec : RoomSpec) (all : List (List Ended)) → ((outcome : List Ended) → IsRunOutcome spec (processes spec) outcome → Contains all outcome)
    → All (λ ends. AreAllowed lines spec.inputs (decisions ends)) all → (events : List Event) → IsRun spec events → KeepsDecisions lines spec events
each_moment lines spec all complete allowed events run t =
    All-contains (λ (ends : List Ended). AreAllowed lines spec.inputs (decisions ends)) all (outcome_of spec (take t events)) allowed (complete (outcome_of spec (take t events)) (moment spec events t run))

-- what was decided once all events have happened is that of the outcome
pub last_moment : (spec : RoomSpec) (events : List Event) → decisions (outcome_of spec events) ≡ decided_by spec events (length events)
last_moment spec events = ap (λ (all : List Event). decisions (outcome_of spec all)) (sym (take_all (length events) events (omega arith)))

-- each process has an end
pub outcome_ends : (spec : RoomSpec) (crashes : ℕ) (outcome : List Ended) → IsRunOutcome spec crashes outcome → length outcome ≡ processes spec
outcome_ends spec crashes outcome is = ap length is.outcome_is ∙ ends_of_all spec is.events

pub if_none : {A : Type 0} (found : Option A) (P : Type 0) → found ≡ None → IfNone found P → P
if_none None P is holds = holds
if_none (Some value) P is holds = absurd cc

-- an outcome that is found has an end for each process
pub found_ends : (spec : RoomSpec) (crashes : ℕ) (all : List (List Ended)) → ((outcome : List Ended) → Contains all outcome → IsRunOutcome spec crashes outcome)
    → (i : ℕ) (ends : List Ended) → slice_get all i ≡ Some ends → length ends ≡ processes spec
found_ends spec crashes all sound i ends is = outcome_ends spec crashes ends (sound ends (i, slice_get_within all i ends is, get_or_from_slice_get all i ends ends is))
