-- Whether a task allows one more event.
use Rattle.std.proofs.Common.{◌≡◌, ◌∙◌, inl, inr, ℕ, ◌+◌, ◌<◌, ◌≤◌, Bool, true, false, cond, eqb, List, [], ◌∷◌, ◌++◌, get_or, length, map, take, Option, refl, sym, ap, subst, arith}
use Rattle.std.specs.Prelude.{IfSome, MatchBool, Some, slice_get}
use Rattle.std.specs.List.{list_any}
use Rattle.std.proofs.lemmas.Bool.{cases_lt}
use Rattle.std.proofs.lemmas.List.{length-append, length-map, length_push, take-append-le, take_all, take_more}
use Rattle.std.proofs.lemmas.Option.{get_or_from_slice_get, slice_get-get_or, slice_get_within}
use Rattle.room_spec.specs.Rooms.{RoomSpec}
use Rattle.transcript.specs.declared.event.Event.{Event}
use Rattle.transcript.specs.declared.event.Event.TheVariants.{Write}
use Rattle.transcript.specs.Tasks.{IsFirstExcess, IsInTask, KeepsOwnTask, KeepsTask, MayBeDecided, decided_in, different}
use Rattle.transcript.proofs.CallerLemmas.{any_different, different-push, input_is, no_input, slice_get-append, slice_get-push, take-push}
use Rattle.view_why.specs.Allowing.{IsAllowedAt}
use Rattle.view_why.specs.Reported.{IsExcess, ReportedRoom, judged_room}
use Rattle.view_why.specs.declared.reported.Decision.{Decision}
use Rattle.view_why.proofs.Deciding.{any-map}

module _ (spec : RoomSpec) (most v : ℕ) (events : List Event) (before : List Decision) (values : map (λ one. one.value) before ≡ different (decided_in events)) where
  among : list_any (λ (one : Decision). eqb one.value v) before ≡ list_any (λ y. eqb y v) (decided_in events)
  among = any-map (λ y. eqb y v) (λ (one : Decision). one.value) before ∙ ap (list_any (λ y. eqb y v)) values ∙ any_different v (decided_in events)

  abbrev one_at_most : Bool → ℕ
  one_at_most true = 0
  one_at_most false = 1

  one_more_at_most : (b : Bool) → length {A = ℕ} (cond b [] (v ∷ [])) ≡ one_at_most b
  one_more_at_most true = refl
  one_more_at_most false = refl

  grown : (b : Bool) → list_any (λ (one : Decision). eqb one.value v) before ≡ b → length (different (decided_in events ++ v ∷ [])) ≡ length before + one_at_most b
  grown b is =
      ap (λ (l : List ℕ). length l) (different-push (decided_in events) v)
      ∙ length-append (different (decided_in events)) (cond {A = List ℕ} (list_any (λ y. eqb y v) (decided_in events)) [] (v ∷ []))
      ∙ ap (λ (n : ℕ). n + length {A = ℕ} (cond (list_any (λ y. eqb y v) (decided_in events)) [] (v ∷ []))) (ap (λ (l : List ℕ). length l) (sym values) ∙ length-map before (λ (one : Decision). one.value))
      ∙ ap (λ (again : Bool). length before + length {A = ℕ} (cond again [] (v ∷ []))) (sym among ∙ is) ∙ ap (λ (n : ℕ). length before + n) (one_more_at_most b)

  pub refuses_input : list_any (λ y. eqb y v) spec.inputs ≡ false → MayBeDecided spec most events v → ⊥
  refuses_input none may = no_input v spec.inputs none may.input

  room_by : (b : Bool) → length before < most → length before + one_at_most b ≤ most
  room_by true room = omega (arith, room)
  room_by false room = omega (arith, room)

  pub allows_room : list_any (λ y. eqb y v) spec.inputs ≡ true → length before < most → MayBeDecided spec most events v
  allows_room input room =
      let long = grown (list_any (λ (one : Decision). eqb one.value v) before) refl in
      let few = room_by (list_any (λ (one : Decision). eqb one.value v) before) room in
      record { input = input_is v spec.inputs input; few = omega (arith, long, few) }

  pub refuses_over : most < length before → MayBeDecided spec most events v → ⊥
  refuses_over over may = let long = grown (list_any (λ (one : Decision). eqb one.value v) before) refl in let few = may.few in absurd (omega (arith, long, few, over))

  pub by_among : list_any (λ y. eqb y v) spec.inputs ≡ true → length before ≡ most → (b : Bool) → list_any (λ (one : Decision). eqb one.value v) before ≡ b → MatchBool b (MayBeDecided spec most events v) (MayBeDecided spec most events v → ⊥)
  by_among input full true is = let long = grown true is in record { input = input_is v spec.inputs input; few = omega (arith, long, full) }
  by_among input full false is = λ may. let long = grown false is in let few = may.few in absurd (omega (arith, long, few, full))

-- ---- event by event

pub event_there : (events : List Event) (at : ℕ) → at < length events → (event : Event) × (slice_get events at ≡ Some event)
event_there events at below = (get_or events at (Write 0 0), slice_get-get_or events at (Write 0 0) below)

same_event : (a b : Event) → Some a ≡ Some b → a ≡ b
same_event a b is = cc

-- whether one event is allowed, which is the one of this index
pub allowed_at : (reported : ReportedRoom) (most at : ℕ) (allowed : Bool) (event : Event) → slice_get reported.events at ≡ Some event
    → MatchBool allowed (IsInTask (judged_room reported.spec) most (take at reported.events) event) (IsInTask (judged_room reported.spec) most (take at reported.events) event → ⊥) → IsAllowedAt reported most at allowed
allowed_at reported most at allowed event there is other also =
    subst (λ (e : Event). MatchBool allowed (IsInTask (judged_room reported.spec) most (take at reported.events) e) (IsInTask (judged_room reported.spec) most (take at reported.events) e → ⊥)) (same_event event other (sym there ∙ also)) is

keeps_nil : (spec : RoomSpec) (most : ℕ) → KeepsTask spec most []
keeps_nil spec most t event is = absurd cc

-- before the first event none is refused
pub keeps_none : (spec : RoomSpec) (most : ℕ) (events : List Event) → KeepsTask spec most (take 0 events)
keeps_none spec most [] = keeps_nil spec most
keeps_none spec most (event ∷ events) = keeps_nil spec most

keeps_push : (spec : RoomSpec) (most : ℕ) (history : List Event) (event : Event) → KeepsTask spec most history → IsInTask spec most history event → KeepsTask spec most (history ++ event ∷ [])
keeps_push spec most history event keeps may t x is = elim (cases_lt t (length history)) [
  | inl below ↦ rw (take-append-le t history (event ∷ []) (omega arith)) (keeps t x (sym (slice_get-append history (event ∷ []) t below) ∙ is))
  | inr past ↦
      let within = slice_get_within (history ++ event ∷ []) t x is in
      let here : length history ≡ t = omega (arith, length_push history event) in
      let event_is : event ≡ x = same_event event x (sym (slice_get-push history event) ∙ ap (slice_get (history ++ event ∷ [])) here ∙ is) in
      subst (λ (n : ℕ). IsInTask spec most (take n (history ++ event ∷ [])) x) here (rw take-push (subst (IsInTask spec most history) event_is may))
]

-- one event more
pub keeps_more : (spec : RoomSpec) (most : ℕ) (events : List Event) (t : ℕ) (event : Event) → slice_get events t ≡ Some event → KeepsTask spec most (take t events) → IsInTask spec most (take t events) event → KeepsTask spec most (take (t + 1) events)
keeps_more spec most events t event there keeps may =
    let more : take (t + 1) events ≡ take t events ++ event ∷ [] = take_more events t event (slice_get_within events t event there) ∙ ap (λ e. take t events ++ e ∷ []) (get_or_from_slice_get events t event event there) in
    subst (KeepsTask spec most) (sym more) (keeps_push spec most (take t events) event keeps may)

-- all were allowed
pub keeps_all : (spec : RoomSpec) (most : ℕ) (events : List Event) (count : ℕ) → length events ≤ count → spec.task ≡ Some most → KeepsTask spec most (take count events) → KeepsOwnTask spec events
keeps_all spec most events count all task keeps = subst (λ (t : Option ℕ). IfSome t (λ n. KeepsTask spec n events)) (sym task) (subst (KeepsTask spec most) (take_all count events all) keeps)

-- the first that isn't allowed breaks the task
pub breaks_own : (spec : RoomSpec) (most : ℕ) (events : List Event) (at : ℕ) → spec.task ≡ Some most → IsFirstExcess spec most events at → KeepsOwnTask spec events → ⊥
breaks_own spec most events at task first keeps = first.breaks (subst (λ (t : Option ℕ). IfSome t (λ n. KeepsTask spec n events)) task keeps at first.event first.there)

pub first_refused : (reported : ReportedRoom) (most at line : ℕ) (event : Event) → reported.spec.task ≡ Some most → slice_get reported.events at ≡ Some event → slice_get reported.lines at ≡ Some line
    → KeepsTask (judged_room reported.spec) most (take at reported.events) → IsAllowedAt reported most at false → IsExcess reported (record { at = at; line = line; most = most })
first_refused reported most at line event task there on keeps refused = record { task = task; first = record { event = event; there = there; breaks = refused event there; kept_before = keeps }; line = on }
