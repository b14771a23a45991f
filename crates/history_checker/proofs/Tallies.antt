-- Decisions that are counted one by one, and the first that a task doesn't allow.
use Rattle.std.proofs.Common.{◌≡◌, ◌↔◌, ℕ, ◌+◌, ◌<◌, ◌≤◌, Bool, true, false, cond, eqb, List, [], ◌∷◌, ◌++◌, length, get_or, take, Option, Some, None, refl, sym, ap, ◌∙◌, subst, arith, inl, inr}
use Rattle.std.specs.Prelude.{slice_get, IfSome}
use Rattle.std.specs.List.{list_any}
use Rattle.std.proofs.lemmas.Bool.{cases_lt}
use Rattle.std.proofs.lemmas.List.{append-nil, length-append, length_push, take-append-le, take-take, take_more}
use Rattle.std.proofs.lemmas.Option.{slice_get_within, slice_get-get_or}
use Rattle.room_spec.specs.Rooms.{RoomSpec}
use Rattle.transcript.specs.declared.event.Event.{Event}
use Rattle.transcript.specs.declared.event.Event.TheVariants.{Write, Snap, Decide}
use Rattle.transcript.specs.Tasks.{decided_by, decided_in, different, IsInTask, KeepsOwnTask, KeepsTask, IsFirstExcess}
use Rattle.transcript.proofs.CallerLemmas.{any_different, different-push, input_is, no_input, no_more, one_more, slice_get-append, slice_get-push, slice_get-take, take-push}
use Rattle.history_checker.specs.Tasks.{IsTally, Allows, HasDecided}

-- ---- a decision

module _ (spec : RoomSpec) (most v : ℕ) (old : List ℕ) where
  pub refuses : list_any (λ y. eqb y v) spec.inputs ≡ false → (new : List ℕ) → Allows spec most v old false new
  refuses none new before tally = λ may. no_input v spec.inputs none may.input

  pub refuses_more : list_any (λ y. eqb y v) old ≡ false → most ≤ length old → (new : List ℕ) → Allows spec most v old false new
  refuses_more fresh full new before tally = λ may.
      let is = tally.values_are in
      let none : list_any (λ y. eqb y v) (decided_in before) ≡ false = sym (any_different v (decided_in before)) ∙ ap (list_any (λ y. eqb y v)) (sym is) ∙ fresh in
      let grown : length (different (decided_in before ++ v ∷ [])) ≡ length old + 1 =
      ap (λ (l : List ℕ). length l) (different-push (decided_in before) v) ∙ ap (λ (b : Bool). length (different (decided_in before) ++ cond b [] (v ∷ []))) none ∙ length-append (different (decided_in before)) (v ∷ []) ∙ ap (λ (l : List ℕ). length l + 1) (sym is) in
      let few = may.few in
      absurd (omega (arith, grown, few, full))

  pub allows_again : list_any (λ y. eqb y v) spec.inputs ≡ true → list_any (λ y. eqb y v) old ≡ true → Allows spec most v old true old
  allows_again input there before tally =
      let is = tally.values_are in
      let among : list_any (λ y. eqb y v) (decided_in before) ≡ true = sym (any_different v (decided_in before)) ∙ ap (list_any (λ y. eqb y v)) (sym is) ∙ there in
      let same : different (decided_in before ++ v ∷ []) ≡ old =
      different-push (decided_in before) v ∙ ap (λ (b : Bool). different (decided_in before) ++ cond b [] (v ∷ [])) among ∙ append-nil (different (decided_in before)) ∙ sym is in
      let few = tally.few in
      let long = ap (λ (l : List ℕ). length l) same in
      (record { input = input_is v spec.inputs input; few = omega (arith, few, long) }, sym same, few)

  pub allows_more : list_any (λ y. eqb y v) spec.inputs ≡ true → list_any (λ y. eqb y v) old ≡ false → length old < most → (new : List ℕ) → new ≡ old ++ v ∷ [] → Allows spec most v old true new
  allows_more input fresh room new new_is before tally =
      let is = tally.values_are in
      let none : list_any (λ y. eqb y v) (decided_in before) ≡ false = sym (any_different v (decided_in before)) ∙ ap (list_any (λ y. eqb y v)) (sym is) ∙ fresh in
      let same : different (decided_in before ++ v ∷ []) ≡ new =
      different-push (decided_in before) v ∙ ap (λ (b : Bool). different (decided_in before) ++ cond b [] (v ∷ [])) none ∙ ap (λ (l : List ℕ). l ++ v ∷ []) (sym is) ∙ sym new_is in
      let long : length (different (decided_in before ++ v ∷ [])) ≡ length old + 1 = ap (λ (l : List ℕ). length l) (same ∙ new_is) ∙ length-append old (v ∷ []) in
      let long' : length new ≡ length old + 1 = ap (λ (l : List ℕ). length l) new_is ∙ length-append old (v ∷ []) in
      (record { input = input_is v spec.inputs input; few = omega (arith, room, long) }, sym same, omega (arith, room, long'))

-- ---- any event

by_answer : (spec : RoomSpec) (most p v : ℕ) (old new : List ℕ) (answer : Bool) → Allows spec most v old answer new → HasDecided spec most (Decide p v) old answer new
by_answer spec most p v old new true allows before tally =
    let has = allows before tally in
    (has.0, record { values_are = has.1 ∙ ap different (sym (one_more before p v)); few = has.2 })
by_answer spec most p v old new false allows before tally = allows before tally

pub follows_decide : (spec : RoomSpec) (most p v : ℕ) (old new : List ℕ) (answer : Bool) (event : Event) → event ≡ Decide p v → Allows spec most v old answer new → HasDecided spec most event old answer new
follows_decide spec most p v old new answer event is allows = subst (λ (e : Event). HasDecided spec most e old answer new) (sym is) (by_answer spec most p v old new answer allows)

pub follows_other : (spec : RoomSpec) (most : ℕ) (old : List ℕ) (event : Event) → decided_by event ≡ None → HasDecided spec most event old true old
follows_other spec most old (Write p v) none before tally = (tt, record { values_are = tally.values_are ∙ ap different (sym (no_more before (Write p v) refl)); few = tally.few })
follows_other spec most old (Snap p row) none before tally = (tt, record { values_are = tally.values_are ∙ ap different (sym (no_more before (Snap p row) refl)); few = tally.few })
follows_other spec most old (Decide p v) none before tally = absurd cc

-- ---- whole lists

pub KeepsTask-nil : (spec : RoomSpec) (most : ℕ) → KeepsTask spec most []
KeepsTask-nil spec most t event is = absurd cc

pub no_tally : (most : ℕ) → IsTally most [] []
no_tally most = record { values_are = refl; few = omega arith }

some_same : (x y : Event) → Some x ≡ Some y → x ≡ y
some_same x y is = cc

pub keeps_push : (spec : RoomSpec) (most : ℕ) (history : List Event) (event : Event) → KeepsTask spec most history → IsInTask spec most history event → KeepsTask spec most (history ++ event ∷ [])
keeps_push spec most history event keeps may t x is = elim (cases_lt t (length history)) [
  | inl below ↦ rw (take-append-le t history (event ∷ []) (omega arith)) (keeps t x (sym (slice_get-append history (event ∷ []) t below) ∙ is))
  | inr past ↦
      let within = slice_get_within (history ++ event ∷ []) t x is in
      let here : length history ≡ t = omega (arith, length_push history event) in
      let event_is : event ≡ x = some_same event x (sym (slice_get-push history event) ∙ ap (slice_get (history ++ event ∷ [])) here ∙ is) in
      subst (λ (n : ℕ). IsInTask spec most (take n (history ++ event ∷ [])) x) here (rw take-push (subst (IsInTask spec most history) event_is may))
]

pub keeps_more : (spec : RoomSpec) (most : ℕ) (events : List Event) (t : ℕ) (d : Event) → t < length events → KeepsTask spec most (take t events) → IsInTask spec most (take t events) (get_or events t d) → KeepsTask spec most (take (t + 1) events)
keeps_more spec most events t d within keeps may = rw (take_more events t d within) (keeps_push spec most (take t events) (get_or events t d) keeps may)

pub excess_at : (spec : RoomSpec) (most : ℕ) (events : List Event) (t : ℕ) (d : Event) → t < length events → KeepsTask spec most (take t events) → (IsInTask spec most (take t events) (get_or events t d) → ⊥) → IsFirstExcess spec most events t
excess_at spec most events t d within keeps breaks = record { event = get_or events t d; there = slice_get-get_or events t d within; breaks = breaks; kept_before = keeps }

pub no_excess : (spec : RoomSpec) (most : ℕ) (events : List Event) (t : ℕ) → IsFirstExcess spec most events t → KeepsTask spec most events → ⊥
no_excess spec most events t first keeps = first.breaks (keeps t first.event first.there)

not_sooner : (spec : RoomSpec) (most : ℕ) (events : List Event) (s t : ℕ) → IsFirstExcess spec most events s → IsFirstExcess spec most events t → s < t → ⊥
not_sooner spec most events s t a b earlier =
    a.breaks (subst (λ before. IsInTask spec most before a.event) (take-take s t events (omega arith)) (b.kept_before s a.event (slice_get-take events t s earlier ∙ a.there)))

pub one_excess : (spec : RoomSpec) (most : ℕ) (events : List Event) (s t : ℕ) → IsFirstExcess spec most events s → IsFirstExcess spec most events t → s ≡ t
one_excess spec most events s t a b = elim (cases_lt s t) [
  | inl earlier ↦ absurd (not_sooner spec most events s t a b earlier)
  | inr not_before ↦ elim (cases_lt t s) [ inl later ↦ absurd (not_sooner spec most events t s b a later) | inr le ↦ omega arith ]
]

-- ---- a list that grows

pub excess_push : (spec : RoomSpec) (most : ℕ) (history : List Event) (event : Event) → KeepsTask spec most history → (IsInTask spec most history event → ⊥) → IsFirstExcess spec most (history ++ event ∷ []) (length history)
excess_push spec most history event keeps breaks = record { event = event; there = slice_get-push history event; breaks = rw take-push breaks; kept_before = rw take-push keeps }

-- what exceeds first does so whatever comes after
pub excess_append : (spec : RoomSpec) (most : ℕ) (history : List Event) (event : Event) (t : ℕ) → IsFirstExcess spec most history t → IsFirstExcess spec most (history ++ event ∷ []) t
excess_append spec most history event t first =
    let within = slice_get_within history t first.event first.there in
    let same : take t (history ++ event ∷ []) ≡ take t history = take-append-le t history (event ∷ []) (omega arith) in
    record {
      event = first.event;
      there = slice_get-append history (event ∷ []) t within ∙ first.there;
      breaks = rw same first.breaks;
      kept_before = rw same first.kept_before;
    }

-- ---- the room's own task

some_number : (x y : ℕ) → ◌≡◌ {A = Option ℕ} (Some x) (Some y) → x ≡ y
some_number x y is = cc

pub no_own_task : (spec : RoomSpec) (events : List Event) → None ≡ spec.task → KeepsOwnTask spec events
no_own_task spec events none = subst (λ (task : Option ℕ). IfSome task (λ most. KeepsTask spec most events)) none tt

pub no_own_excess : (spec : RoomSpec) (events : List Event) (t : ℕ) → None ≡ spec.task → (most : ℕ) × (spec.task ≡ Some most) × IsFirstExcess spec most events t → ⊥
no_own_excess spec events t none one = absurd (let never : None ≡ Some one.0 = none ∙ one.1 in cc)

pub own_task : (spec : RoomSpec) (events : List Event) (most : ℕ) (P : Type 0) → Some most ≡ spec.task → P ↔ KeepsTask spec most events → P ↔ KeepsOwnTask spec events
own_task spec events most P some keeps = subst (λ (task : Option ℕ). P ↔ IfSome task (λ n. KeepsTask spec n events)) some keeps

pub own_excess : (spec : RoomSpec) (events : List Event) (most t : ℕ) (P : Type 0) → Some most ≡ spec.task → P ↔ IsFirstExcess spec most events t → P ↔ ((n : ℕ) × (spec.task ≡ Some n) × IsFirstExcess spec n events t)
own_excess spec events most t P some first = (
  (λ p. (most, sym some, first.0 p)),
  (λ one. first.1 (subst (λ (n : ℕ). IsFirstExcess spec n events t) (sym (some_number most one.0 (some ∙ one.1))) one.2)),
)
