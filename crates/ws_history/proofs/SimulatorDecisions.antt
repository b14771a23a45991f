-- What the simulators have decided is among what the processes of the history have, so a task that these keep they keep.
use Rattle.std.proofs.Common.{◌≡◌, ◌⊎◌, ℕ, true, false, zero, suc, ◌+◌, ◌<◌, ◌≤◌, List, [], ◌∷◌, ◌++◌, length, get_or, take, Contains, Option, Some, None, inl, inr, refl, sym, ap, ◌∙◌, subst, arith}
use Rattle.std.specs.Prelude.{slice_get}
use Rattle.std.specs.List.{cons_option, filter_map, range_with_len}
use Rattle.std.proofs.lemmas.List.{get_or_default, take_all, take_more}
use Rattle.std.proofs.lemmas.Option.{slice_get-get_or}
use Rattle.room_spec.specs.Rooms.{IsCertified, RoomSpec, IsWithinLimits, is_reduction, processes, with_inputs}
use Rattle.transcript.specs.Reductions.{IsRunOf}
use Rattle.transcript.specs.Runs.{IsRun}
use Rattle.transcript.specs.Tasks.{KeepsTask, decided_by, decided_in, different}
use Rattle.transcript.specs.declared.event.Event.{Event}
use Rattle.transcript.specs.declared.event.Event.TheVariants.{Write, Snap, Decide}
use Rattle.transcript.proofs.CallerLemmas.{In, contains_in, decides_few, decides_inputs, few_different, in_contains, in_different, no_more, one_more}
use Rattle.room_core.specs.Calls.{RoomState}
use Rattle.room_core.specs.Fields.{Fields, decision_in}
use Rattle.room_core.specs.Reading.{AreFieldsOf}
use Rattle.room_core.proofs.CallerLemmas.{rooms_agree}
use Rattle.ws_history.specs.Inputs.{DoRunsKeepTask}
use Rattle.ws_history.specs.Reports.{decisions_in}
use Rattle.ws_history.specs.Sources.{history_of}
use Rattle.ws_history.proofs.Deciders.{decided_by_process}
use Rattle.ws_history.proofs.Order.{cons_cases, not_empty}
use Rattle.ws_history.proofs.SourceIs.{ordinary_fields_run, reduction_fields_run}

-- ---- lists of values

with_first : (o : Option ℕ) (v : ℕ) (rest : List ℕ) → In v rest → In v (cons_option o rest)
with_first None v rest at = at
with_first (Some w) v rest at = inr at

-- each decision of a history is one of its decided values
in_decided : (events : List Event) (p v : ℕ) → Contains events (Decide p v) → In v (decided_in events)
in_decided [] p v has = absurd (not_empty (Decide p v) has)
in_decided (event ∷ rest) p v has = elim (cons_cases event rest (Decide p v) has) [
  | inl same ↦ subst (λ (e : Event). In v (cons_option (decided_by e) (decided_in rest))) (sym same) (inl refl)
  | inr more ↦ with_first (decided_by event) v (decided_in rest) (in_decided rest p v more)
]

later : (f : ℕ → Option ℕ) (a n v : ℕ) → (i : ℕ) × (i < a + 1 + n) × (f i ≡ Some v) → (i : ℕ) × (i < a + suc n) × (f i ≡ Some v)
later f a n v is = let low = is.1 in (is.0, omega (arith, low), is.2)

first_or_later : (f : ℕ → Option ℕ) (a n v : ℕ) (rest : List ℕ) (o : Option ℕ) → f a ≡ o → (In v rest → (i : ℕ) × (i < a + 1 + n) × (f i ≡ Some v)) → In v (cons_option o rest) → (i : ℕ) × (i < a + suc n) × (f i ≡ Some v)
first_or_later f a n v rest None is more at = later f a n v (more at)
first_or_later f a n v rest (Some w) is more (inl same) = (a, omega arith, is ∙ ap Some same)
first_or_later f a n v rest (Some w) is more (inr at) = later f a n v (more at)

-- a value among what a function gives of the numbers of a range
found_in : (f : ℕ → Option ℕ) (a n v : ℕ) → In v (filter_map f (range_with_len a n)) → (i : ℕ) × (i < a + n) × (f i ≡ Some v)
found_in f a zero v at = absurd at
found_in f a (suc n) v at = first_or_later f a n v (filter_map f (range_with_len (a + 1) n)) (f a) refl (λ more. found_in f (a + 1) n v more) at

in_or_last : (w v : ℕ) (xs : List ℕ) → In w (xs ++ v ∷ []) → (In w xs) ⊎ (v ≡ w)
in_or_last w v [] (inl e) = inr e
in_or_last w v [] (inr more) = absurd more
in_or_last w v (x ∷ xs) (inl e) = inl (inl e)
in_or_last w v (x ∷ xs) (inr more) = elim (in_or_last w v xs more) [ inl at ↦ inl (inr at) | inr e ↦ inr e ]

-- ---- a history that keeps a task

-- as many different values are decided as the task allows at most, and each is an input
record IsAllowed (spec : RoomSpec) (most : ℕ) (values : List ℕ) : Type 0 where
  pub few : length (different values) ≤ most
  pub inputs : (v : ℕ) → In v values → Contains spec.inputs v

module _ (spec : RoomSpec) (most : ℕ) (events : List Event) (keeps : KeepsTask spec most events) where
  allowed_on : (t : ℕ) (event : Event) → slice_get events t ≡ Some event → IsAllowed spec most (decided_in (take t events)) → IsAllowed spec most (decided_in (take t events ++ event ∷ []))
  allowed_on t (Write p v) there before = subst (IsAllowed spec most) (sym (no_more (take t events) (Write p v) refl)) before
  allowed_on t (Snap p row) there before = subst (IsAllowed spec most) (sym (no_more (take t events) (Snap p row) refl)) before
  allowed_on t (Decide p v) there before =
      let may = keeps t (Decide p v) there in
      subst (IsAllowed spec most) (sym (one_more (take t events) p v))
      (record {
        few = may.few;
        inputs = λ w at. elim (in_or_last w v (decided_in (take t events)) at) [
          | inl was ↦ before.inputs w was
          | inr same ↦ subst (Contains spec.inputs) same may.input
        ];
      })

  allowed_at : (t : ℕ) → t ≤ length events → IsAllowed spec most (decided_in (take t events))
  allowed_at zero within = record { few = omega arith; inputs = λ v at. absurd at }
  allowed_at (suc t) within =
      let d = Decide 0 0 in
      let event = get_or events t d in
      let there = slice_get-get_or events t d (omega arith) in
      subst (λ (some : List Event). IsAllowed spec most (decided_in some)) (sym (take_more events t d (omega arith)) ∙ ap (λ (k : ℕ). take k events) (let e : t + 1 ≡ suc t = omega arith in e))
      (allowed_on t event there (allowed_at t (omega arith)))

  allowed : IsAllowed spec most (decided_in events)
  allowed = subst (λ (some : List Event). IsAllowed spec most (decided_in some)) (take_all (length events) events (omega arith)) (allowed_at (length events) (omega arith))

-- ---- the simulators

module _ (room : RoomState) (fields : Fields) (limits : IsWithinLimits room.spec) (are : AreFieldsOf room fields) where
  of_history : (v : ℕ) → In v (decisions_in room.spec fields) → In v (decided_in (history_of room.spec fields))
  of_history v at =
      let who = found_in (decision_in fields) 0 room.spec.simulators v at in
      let process = decided_by_process room fields limits are who.0 v (omega (arith, who.1)) who.2 in
      in_decided (history_of room.spec fields) process.0 v process.2

  pub no_more_values : length (different (decisions_in room.spec fields)) ≤ length (different (decided_in (history_of room.spec fields)))
  no_more_values =
      few_different (decisions_in room.spec fields) (different (decided_in (history_of room.spec fields))) (λ v at. in_different v (decided_in (history_of room.spec fields)) (of_history v at))

  -- by a task that the history keeps with some inputs
  within_task_of : (spec : RoomSpec) (most : ℕ) → KeepsTask spec most (history_of room.spec fields) → (length (different (decisions_in room.spec fields)) ≤ most) × ((v : ℕ) → Contains (decisions_in room.spec fields) v → Contains spec.inputs v)
  within_task_of spec most keeps =
      let is = allowed spec most (history_of room.spec fields) keeps in
      (omega (arith, no_more_values, is.few), λ v has. is.inputs v (of_history v (contains_in v (decisions_in room.spec fields) has)))

  pub within_task : (most : ℕ) → KeepsTask room.spec most (history_of room.spec fields) → (length (different (decisions_in room.spec fields)) ≤ most) × ((v : ℕ) → Contains (decisions_in room.spec fields) v → Contains room.spec.inputs v)
  within_task = within_task_of room.spec

  within_bound_of : (spec : RoomSpec) → IsRun spec (history_of room.spec fields) → (f : ℕ) → IsCertified spec f → (length (different (decisions_in room.spec fields)) ≤ f + 1) × ((v : ℕ) → Contains (decisions_in room.spec fields) v → Contains spec.inputs v)
  within_bound_of spec run f certified =
      let events = history_of room.spec fields in
      let few = decides_few spec f events certified run in
      (omega (arith, few, no_more_values), λ v has. decides_inputs spec f events certified run v (in_contains v (decided_in events) (of_history v (contains_in v (decisions_in room.spec fields) has))))

  pub within_bound : is_reduction room.spec ≡ false → (f : ℕ) → IsCertified room.spec f → (length (different (decisions_in room.spec fields)) ≤ f + 1) × ((v : ℕ) → Contains (decisions_in room.spec fields) v → Contains room.spec.inputs v)
  within_bound is = within_bound_of room.spec (ordinary_fields_run room.spec fields is (rooms_agree room fields limits are))

  -- ---- in a reduction

  module _ (is : is_reduction room.spec ≡ true) where
    is_run : IsRunOf room.spec (history_of room.spec fields)
    is_run = reduction_fields_run room.spec fields is (rooms_agree room fields limits are)

    one_is_own : (v : ℕ) → Contains is_run.inputs v → Contains room.spec.own v
    one_is_own v has =
        let p = has.0 in
        let low : p < processes room.spec = subst (λ (n : ℕ). p < n) is_run.from_own.many has.1 in
        subst (Contains room.spec.own) (sym (get_or_default is_run.inputs p v 0 has.1) ∙ has.2) (is_run.from_own.own p low)

    own_of : (most : ℕ) → (length (different (decisions_in room.spec fields)) ≤ most) × ((v : ℕ) → Contains (decisions_in room.spec fields) v → Contains is_run.inputs v)
        → (length (different (decisions_in room.spec fields)) ≤ most) × ((v : ℕ) → Contains (decisions_in room.spec fields) v → Contains room.spec.own v)
    own_of most within = (within.0, λ v has. one_is_own v (within.1 v has))

    pub within_own : (most : ℕ) → DoRunsKeepTask room.spec most → (length (different (decisions_in room.spec fields)) ≤ most) × ((v : ℕ) → Contains (decisions_in room.spec fields) v → Contains room.spec.own v)
    within_own most keeps = own_of most (within_task_of (with_inputs room.spec is_run.inputs) most (keeps (history_of room.spec fields) is_run))

    pub within_own_bound : (f : ℕ) → IsCertified room.spec f → (length (different (decisions_in room.spec fields)) ≤ f + 1) × ((v : ℕ) → Contains (decisions_in room.spec fields) v → Contains room.spec.own v)
    within_own_bound f certified =
        own_of (f + 1) (within_bound_of (with_inputs room.spec is_run.inputs) is_run.run f (record { protocol = certified.protocol; fewer = subst (λ (n : ℕ). f < n) (sym is_run.from_own.many) certified.fewer }))
