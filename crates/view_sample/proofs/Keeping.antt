-- That an outcome keeps its room's task says the same as that the room's history does.
use Rattle.std.proofs.Common.{get_or, ◌≡◌, ◌≢◌, ◌↔◌, ◌∙◌, ℕ, zero, suc, ◌+◌, ◌<◌, ◌≤◌, Bool, true, false, ◌&&◌, ◌||◌, not, cond, eqb, List, [], ◌∷◌, ◌++◌, length, take, Option, Some, None, refl, sym, ap, subst, arith, rules, inl, inr, ◌⊎◌}
use Rattle.std.specs.Prelude.{slice_get, IfSome, nat_le}
use Rattle.std.specs.List.{Contains, filter, list_all, list_any}
use Rattle.std.specs.Option.{option_map_or}
use Rattle.std.proofs.lemmas.Bool.{eq-eqb, eqb-true, ne_eqb}
use Rattle.std.proofs.lemmas.List.{take_all, take_more}
use Rattle.std.proofs.lemmas.List.FromFn.{get_or-map-range_with_len, length-map-range_with_len}
use Rattle.std.proofs.lemmas.Option.{get_or_from_slice_get, slice_get-get_or}
use Rattle.room_spec.specs.Rooms.{IsWithinLimits, RoomSpec, is_reduction, processes}
use Rattle.transcript.specs.declared.event.Event.{Event}
use Rattle.transcript.specs.declared.event.Event.TheVariants.{Write, Snap, Decide}
use Rattle.transcript.specs.Runs.{IsRun}
use Rattle.transcript.specs.Tasks.{IsInTask, KeepsOwnTask, KeepsTask, decided_by, decided_in, different}
use Rattle.transcript.proofs.CallerLemmas.{In, contains_in, few_different, in_any, in_different, input_is, no_more, one_more}
use Rattle.room_core.specs.Agreements.{run_spec}
use Rattle.room_core.specs.Calls.{RoomState}
use Rattle.room_core.specs.Fields.{Fields}
use Rattle.room_core.specs.Reading.{AreFieldsOf}
use Rattle.room_core.proofs.CallerLemmas.{rooms_agree}
use Rattle.ws_history.specs.Reports.{is_decided, state_of, states_of}
use Rattle.ws_history.specs.Sources.{history_of}
use Rattle.ws_history.specs.contracts.states.ProcessStatePartialEq.TheImpl.{ghosts}
use Rattle.ws_history.specs.declared.states.ProcessState.{ProcessState}
use Rattle.ws_history.specs.declared.states.ProcessState.TheVariants.{Decided, Spent, Held, Going}
use Rattle.ws_history.proofs.CallerLemmas.{decided_there, fields_run, low_of_run}
use Rattle.view_sample.specs.Counts.{values_in}
use Rattle.view_sample.specs.Tasks.{decides_input, given_inputs, judged_room, keeps, keeps_task}

-- ---- the values that are decided in states

abbrev Decides : ℕ → List ProcessState → Type 0
Decides v [] = ⊥
Decides v (state ∷ states) = (state ≡ Decided v) ⊎ Decides v states

abbrev value_of : ProcessState → ℕ
value_of (Decided v) = v
value_of Spent = 0
value_of (Held i) = 0
value_of Going = 0

-- each at the last process that decides it
abbrev values : List ProcessState → List ℕ
values [] = []
values (state ∷ states) = cond (is_decided state && not (list_any (ghosts.eq state) states)) (value_of state ∷ values states) (values states)

as_many : (states : List ProcessState) → values_in states ≡ length (values states)
as_many [] = refl
as_many (state ∷ states) = by (is_decided state && not (list_any (ghosts.eq state) states)) (as_many states)
  where
    by : (b : Bool) → values_in states ≡ length (values states) → cond b (suc (values_in states)) (values_in states) ≡ length (cond b (value_of state ∷ values states) (values states))
    by true rest = ap suc rest
    by false rest = rest

same_state : (v : ℕ) (other : ProcessState) → ghosts.eq (Decided v) other ≡ true → other ≡ Decided v
same_state v (Decided w) is = ap Decided (sym (eqb-true v w is))
same_state v Spent is = absurd cc
same_state v (Held i) is = absurd cc
same_state v Going is = absurd cc

any_state : (v : ℕ) (states : List ProcessState) → list_any (ghosts.eq (Decided v)) states ≡ true → Decides v states
any_state v [] is = absurd cc
any_state v (state ∷ states) is = by (ghosts.eq (Decided v) state) refl (any_state v states) is
  where
    by : (b : Bool) → ghosts.eq (Decided v) state ≡ b → (list_any (ghosts.eq (Decided v)) states ≡ true → Decides v states) → (b || list_any (ghosts.eq (Decided v)) states) ≡ true → Decides v (state ∷ states)
    by true same rest all = inl (same_state v state same)
    by false same rest all = inr (rest all)

state_any : (v : ℕ) (states : List ProcessState) → Decides v states → list_any (ghosts.eq (Decided v)) states ≡ true
state_any v [] at = absurd at
state_any v (state ∷ states) (inl e) = ap (λ (b : Bool). b || list_any (ghosts.eq (Decided v)) states) (ap (ghosts.eq (Decided v)) e ∙ eq-eqb v v refl)
state_any v (state ∷ states) (inr more) = by (ghosts.eq (Decided v) state) (state_any v states more)
  where
    by : (b : Bool) → list_any (ghosts.eq (Decided v)) states ≡ true → (b || list_any (ghosts.eq (Decided v)) states) ≡ true
    by true rest = refl
    by false rest = rest

in_values : (v : ℕ) (states : List ProcessState) → Decides v states → In v (values states)
in_values v [] at = absurd at
in_values v (state ∷ states) (inl e) = subst (λ (one : ProcessState). In v (values (one ∷ states))) (sym e) (by (list_any (ghosts.eq (Decided v)) states) refl (in_values v states))
  where
    by : (b : Bool) → list_any (ghosts.eq (Decided v)) states ≡ b → (Decides v states → In v (values states)) → In v (cond (not b) (v ∷ values states) (values states))
    by true more rest = rest (any_state v states more)
    by false more rest = inl refl
in_values v (state ∷ states) (inr more) = by (is_decided state && not (list_any (ghosts.eq state) states)) (in_values v states more)
  where
    by : (b : Bool) → In v (values states) → In v (cond b (value_of state ∷ values states) (values states))
    by true rest = inr rest
    by false rest = rest

decided_is : (state : ProcessState) (b : Bool) → (is_decided state && b) ≡ true → state ≡ Decided (value_of state)
decided_is (Decided v) b is = refl
decided_is Spent b is = absurd cc
decided_is (Held i) b is = absurd cc
decided_is Going b is = absurd cc

from_values : (v : ℕ) (states : List ProcessState) → In v (values states) → Decides v states
from_values v [] at = absurd at
from_values v (state ∷ states) at = by (is_decided state && not (list_any (ghosts.eq state) states)) refl (from_values v states) at
  where
    by : (b : Bool) → (is_decided state && not (list_any (ghosts.eq state) states)) ≡ b → (In v (values states) → Decides v states) → In v (cond b (value_of state ∷ values states) (values states))
        → Decides v (state ∷ states)
    by true is rest (inl e) = inl (decided_is state (not (list_any (ghosts.eq state) states)) is ∙ ap Decided e)
    by true is rest (inr more) = inr (rest more)
    by false is rest more = inr (rest more)

-- ---- each of them is there once

abbrev without : ℕ → List ℕ → List ℕ
without x xs = filter (λ y. not (eqb y x)) xs

all_other : (x : ℕ) (xs : List ℕ) → ((w : ℕ) → In w xs → w ≢ x) → without x xs ≡ xs
all_other x [] other = refl
all_other x (y ∷ xs) other =
    ap (λ (b : Bool). cond (not b) (y ∷ without x xs) (without x xs)) (ne_eqb y x (other y (inl refl))) ∙ ap (λ (rest : List ℕ). y ∷ rest) (all_other x xs (λ w at. other w (inr at)))

last_decider : (state : ProcessState) (states : List ProcessState) → (is_decided state && not (list_any (ghosts.eq state) states)) ≡ true → (w : ℕ) → In w (values states) → w ≢ value_of state
last_decider (Decided v) states is w at e = absurd (let there = state_any v states (subst (λ (n : ℕ). Decides n states) e (from_values w states at)) in let wrong : false ≡ true = sym (ap not there) ∙ is in cc)
last_decider Spent states is w at e = absurd cc
last_decider (Held i) states is w at e = absurd cc
last_decider Going states is w at e = absurd cc

each_once : (states : List ProcessState) → different (values states) ≡ values states
each_once [] = refl
each_once (state ∷ states) = by (is_decided state && not (list_any (ghosts.eq state) states)) refl (each_once states)
  where
    by : (b : Bool) → (is_decided state && not (list_any (ghosts.eq state) states)) ≡ b → different (values states) ≡ values states
        → different (cond b (value_of state ∷ values states) (values states)) ≡ cond b (value_of state ∷ values states) (values states)
    by true is rest = ap (λ (xs : List ℕ). value_of state ∷ xs) (ap (without (value_of state)) rest ∙ all_other (value_of state) (values states) (last_decider state states is))
    by false is rest = rest

-- ---- and in events

put_first : (e : Event) (events : List Event) (v : ℕ) → In v (decided_in events) → In v (decided_in (e ∷ events))
put_first (Write p w) events v at = at
put_first (Snap p row) events v at = at
put_first (Decide p w) events v at = inr at

decided_at : (events : List Event) (k p v : ℕ) → k < length events → get_or events k (Decide p v) ≡ Decide p v → In v (decided_in events)
decided_at [] k p v below is = absurd (omega arith)
decided_at (e ∷ events) zero p v below is = subst (λ (one : Event). In v (decided_in (one ∷ events))) (sym is) (inl refl)
decided_at (e ∷ events) (suc k) p v below is = put_first e events v (decided_at events k p v (omega arith) is)

later : (e : Event) (events : List Event) (v : ℕ) → (p : ℕ) × Contains events (Decide p v) → (p : ℕ) × Contains (e ∷ events) (Decide p v)
later e events v at = let below = at.1.1 in (at.0, (suc at.1.0, omega (arith, below), at.1.2))

decider_of : (events : List Event) (v : ℕ) → In v (decided_in events) → (p : ℕ) × Contains events (Decide p v)
decider_of [] v at = absurd at
decider_of (Write p w ∷ events) v at = later (Write p w) events v (decider_of events v at)
decider_of (Snap p row ∷ events) v at = later (Snap p row) events v (decider_of events v at)
decider_of (Decide p w ∷ events) v (inl e) = (p, (0, omega arith, ap (λ (n : ℕ). Decide p n) e))
decider_of (Decide p w ∷ events) v (inr more) = later (Decide p w) events v (decider_of events v more)

-- ---- a task is kept if few values are decided, each of them an input

module _ (spec : RoomSpec) (most : ℕ) (events : List Event) where
  abbrev Inputs : List Event → Type 0
  Inputs some = (v : ℕ) → In v (decided_in some) → Contains spec.inputs v

  abbrev Kept : List Event → Type 0
  Kept some = Inputs some × (length (different (decided_in some)) ≤ most)

  either : (w v : ℕ) (xs : List ℕ) → ((u : ℕ) → In u xs → Contains spec.inputs u) → Contains spec.inputs v → In w (xs ++ v ∷ []) → Contains spec.inputs w
  either w v [] each last (inl e) = subst (Contains spec.inputs) e last
  either w v [] each last (inr none) = absurd none
  either w v (x ∷ xs) each last (inl e) = each w (inl e)
  either w v (x ∷ xs) each last (inr more) = either w v xs (λ u at. each u (inr at)) last more

  one_step : (t : ℕ) (event : Event) → slice_get events t ≡ Some event → IsInTask spec most (take t events) event → Kept (take t events) → Kept (take t events ++ event ∷ [])
  one_step t (Write p v) there in_task kept = subst (λ (xs : List ℕ). ((u : ℕ) → In u xs → Contains spec.inputs u) × (length (different xs) ≤ most)) (sym (no_more (take t events) (Write p v) refl)) kept
  one_step t (Snap p row) there in_task kept = subst (λ (xs : List ℕ). ((u : ℕ) → In u xs → Contains spec.inputs u) × (length (different xs) ≤ most)) (sym (no_more (take t events) (Snap p row) refl)) kept
  one_step t (Decide p v) there in_task kept =
      subst (λ (xs : List ℕ). ((u : ℕ) → In u xs → Contains spec.inputs u) × (length (different xs) ≤ most)) (sym (one_more (take t events) p v))
      ((λ u at. either u v (decided_in (take t events)) kept.0 in_task.input at), in_task.few)

  up_to : KeepsTask spec most events → (t : ℕ) → t ≤ length events → Kept (take t events)
  up_to kept zero below = ((λ v at. absurd at), omega arith)
  up_to kept (suc t) below =
      let event = get_or events t (Write 0 0) in
      let there = slice_get-get_or events t (Write 0 0) (omega (arith, below)) in
      subst (λ (n : ℕ). Kept (take n events)) (let next : t + 1 ≡ suc t = omega arith in next)
      (subst Kept (sym (take_more events t event (omega (arith, below)) ∙ ap (λ (e : Event). take t events ++ e ∷ []) (get_or_from_slice_get events t event event there))) (one_step t event there (kept t event there) (up_to kept t (omega (arith, below)))))

  pub task_parts : KeepsTask spec most events → Kept events
  task_parts kept = subst Kept (take_all (length events) events (omega arith)) (up_to kept (length events) (omega arith))

  -- what is decided up to there is among all
  early : (t : ℕ) (event : Event) (v : ℕ) → slice_get events t ≡ Some event → decided_by event ≡ Some v → (w : ℕ) → In w (decided_in (take t events) ++ v ∷ []) → In w (decided_in events)
  early t event v there decides w at = among events t event v there decides w at
    where
      among : (all : List Event) (k : ℕ) (e : Event) (v : ℕ) → slice_get all k ≡ Some e → decided_by e ≡ Some v → (w : ℕ) → In w (decided_in (take k all) ++ v ∷ []) → In w (decided_in all)
      among [] k e v there is w at = absurd cc
      among (Write p u ∷ all) zero e v there is w at = absurd (let same : Write p u ≡ e = cc in let wrong : None ≡ Some v = ap decided_by same ∙ is in cc)
      among (Snap p row ∷ all) zero e v there is w at = absurd (let same : Snap p row ≡ e = cc in let wrong : None ≡ Some v = ap decided_by same ∙ is in cc)
      among (Decide p u ∷ all) zero e v there is w (inl e') = inl (let same : Decide p u ≡ e = cc in let found : Some u ≡ Some v = ap decided_by same ∙ is in (let uv : u ≡ v = cc in uv ∙ e'))
      among (Decide p u ∷ all) zero e v there is w (inr none) = absurd none
      among (Write p u ∷ all) (suc k) e v there is w at = among all k e v there is w at
      among (Snap p row ∷ all) (suc k) e v there is w at = among all k e v there is w at
      among (Decide p u ∷ all) (suc k) e v there is w (inl e') = inl e'
      among (Decide p u ∷ all) (suc k) e v there is w (inr more) = inr (among all k e v there is w more)

  in_task : Kept events → (t : ℕ) (event : Event) → slice_get events t ≡ Some event → IsInTask spec most (take t events) event
  in_task kept t (Write p v) there = tt
  in_task kept t (Snap p row) there = tt
  in_task kept t (Decide p v) there = record {
    input = kept.0 v (early t (Decide p v) v there refl v (at_end v (decided_in (take t events))));
    few =
        let all = few_different (decided_in (take t events) ++ v ∷ []) (different (decided_in events)) (λ w at. in_different w (decided_in events) (early t (Decide p v) v there refl w at)) in
        let most_are = kept.1 in
        omega (arith, all, most_are);
  }
    where
      at_end : (w : ℕ) (xs : List ℕ) → In w (xs ++ w ∷ [])
      at_end w [] = inl refl
      at_end w (x ∷ xs) = inr (at_end w xs)

  pub parts_task : Kept events → KeepsTask spec most events
  parts_task kept = λ t event there. in_task kept t event there

-- ---- the states of a room, and its history

module _ (spec : RoomSpec) (states : List ProcessState) (events : List Event) (same : (v : ℕ) → (Decides v states → In v (decided_in events)) × (In v (decided_in events) → Decides v states)) where
  counts : values_in states ≡ length (different (decided_in events))
  counts =
      let many = as_many states in
      let once = ap (λ (xs : List ℕ). length xs) (each_once states) in
      let few = few_different (values states) (different (decided_in events)) (λ v at. in_different v (decided_in events) ((same v).0 (from_values v states at))) in
      let all = few_different (decided_in events) (values states) (λ v at. in_values v states ((same v).1 at)) in
      omega (arith, many, once, few, all)

  all_inputs : (some : List ProcessState) → list_all (decides_input spec) some ≡ true → (v : ℕ) → Decides v some → Contains (given_inputs spec) v
  all_inputs [] are v at = absurd at
  all_inputs (state ∷ some) are v at = by (decides_input spec state) refl are at (all_inputs some)
    where
      by : (b : Bool) → decides_input spec state ≡ b → (b && list_all (decides_input spec) some) ≡ true → Decides v (state ∷ some)
          → (list_all (decides_input spec) some ≡ true → (v : ℕ) → Decides v some → Contains (given_inputs spec) v) → Contains (given_inputs spec) v
      by true here rest (inl e) later = input_is v (given_inputs spec) (sym (ap (decides_input spec) e) ∙ here)
      by true here rest (inr more) later = later rest v more
      by false here rest at later = absurd cc

  inputs_all : (some : List ProcessState) → ((v : ℕ) → Decides v some → Contains (given_inputs spec) v) → list_all (decides_input spec) some ≡ true
  inputs_all [] are = refl
  inputs_all (state ∷ some) are = by state (λ v e. are v (inl e)) (inputs_all some (λ v at. are v (inr at)))
    where
      by : (one : ProcessState) → ((v : ℕ) → one ≡ Decided v → Contains (given_inputs spec) v) → list_all (decides_input spec) some ≡ true → (decides_input spec one && list_all (decides_input spec) some) ≡ true
      by (Decided v) first rest = ap (λ (b : Bool). b && list_all (decides_input spec) some) (in_any v (given_inputs spec) (contains_in v (given_inputs spec) (first v refl))) ∙ rest
      by Spent first rest = rest
      by (Held i) first rest = rest
      by Going first rest = rest

  both_true : (a b : Bool) → (a && b) ≡ true → (a ≡ true) × (b ≡ true)
  both_true true b is = (refl, is)
  both_true false b is = absurd cc

  pub kept_by : (most : ℕ) → (keeps spec states most ≡ true) ↔ KeepsTask (judged_room spec) most events
  kept_by most = (
    (λ is.
        let parts = both_true (nat_le (values_in states) most) (list_all (decides_input spec) states) is in
        let few : values_in states ≤ most = le_true parts.0 in
        parts_task (judged_room spec) most events ((λ v at. all_inputs states parts.1 v ((same v).1 at)), omega (arith, few, counts))),
    (λ kept.
        let parts = task_parts (judged_room spec) most events kept in
        let few = parts.1 in
        ap (λ (b : Bool). b && list_all (decides_input spec) states) (true_le (omega (arith, few, counts))) ∙ inputs_all states (λ v at. parts.0 v ((same v).0 at))),
  )
    where
      le_true : nat_le (values_in states) most ≡ true → values_in states ≤ most
      le_true is = search rules

      true_le : values_in states ≤ most → nat_le (values_in states) most ≡ true
      true_le is = search rules

-- ---- a room

decides_at : (v : ℕ) (states : List ProcessState) → Decides v states → (j : ℕ) × (j < length states) × (get_or states j Going ≡ Decided v)
decides_at v [] at = absurd at
decides_at v (state ∷ states) (inl e) = (0, omega arith, e)
decides_at v (state ∷ states) (inr more) = let at = decides_at v states more in let below = at.1 in (suc at.0, omega (arith, below), at.2)

at_decides : (v j : ℕ) (states : List ProcessState) → j < length states → get_or states j Going ≡ Decided v → Decides v states
at_decides v j [] below is = absurd (omega arith)
at_decides v zero (state ∷ states) below is = inl is
at_decides v (suc j) (state ∷ states) below is = inr (at_decides v j states (omega arith) is)

module _ (room : RoomState) (fields : Fields) (limits : IsWithinLimits room.spec) (are : AreFieldsOf room fields) where
  abbrev history : List Event
  history = history_of room.spec fields

  run : IsRun (run_spec room.spec fields) history
  run = fields_run room.spec fields (rooms_agree room fields limits are)

  long : length (states_of room.spec fields) ≡ processes room.spec
  long = length-map-range_with_len (state_of room.spec fields) 0 (processes room.spec)

  state_at : (j : ℕ) → j < processes room.spec → get_or (states_of room.spec fields) j Going ≡ state_of room.spec fields j
  state_at j below = get_or-map-range_with_len (state_of room.spec fields) 0 (processes room.spec) j j Going below (omega arith)

  process_of_decision : (j v : ℕ) → Contains history (Decide j v) → j < processes room.spec
  process_of_decision j v at = low_of_run room.spec fields j ((run at.0 (Decide j v) (slice_get-get_or history at.0 (Decide j v) at.1 ∙ ap Some at.2)).process)

  same_values : (v : ℕ) → (Decides v (states_of room.spec fields) → In v (decided_in history)) × (In v (decided_in history) → Decides v (states_of room.spec fields))
  same_values v = (
    (λ decides.
        let at = decides_at v (states_of room.spec fields) decides in
        let within = at.1 in
        let below : at.0 < processes room.spec = omega (arith, within, long) in
        let there = (decided_there room fields limits are at.0 v below).0 (sym (state_at at.0 below) ∙ at.2) in
        decided_at history there.0 at.0 v there.1 there.2),
    (λ decided.
        let at = decider_of history v decided in
        let below = process_of_decision at.0 v at.1 in
        at_decides v at.0 (states_of room.spec fields) (omega (arith, below, long)) (state_at at.0 below ∙ (decided_there room fields limits are at.0 v below).1 at.1)),
  )

  by_task : (task : Option ℕ) → (option_map_or (keeps room.spec (states_of room.spec fields)) task true ≡ true) ↔ IfSome task (λ most. KeepsTask (judged_room room.spec) most history)
  by_task None = ((λ is. tt), (λ is. refl))
  by_task (Some most) = kept_by room.spec (states_of room.spec fields) history same_values most

  pub kept_task : (keeps_task room.spec (states_of room.spec fields) ≡ true) ↔ KeepsOwnTask (judged_room room.spec) history
  kept_task = by_task room.spec.task

  pub kept_ordinary : is_reduction room.spec ≡ false → (keeps_task room.spec (states_of room.spec fields) ≡ true) ↔ KeepsOwnTask room.spec history
  kept_ordinary ordinary =
      subst (λ (spec : RoomSpec). (keeps_task room.spec (states_of room.spec fields) ≡ true) ↔ KeepsOwnTask spec history)
      (ap (λ (b : Bool). record room.spec { inputs = cond b room.spec.own room.spec.inputs }) ordinary) kept_task
