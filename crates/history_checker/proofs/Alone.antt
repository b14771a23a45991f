-- A process of a reduction is judged by its own events: which inputs it may have, and what is kept of it with one of them.
use Rattle.std.proofs.Common.{◌≡◌, ◌≢◌, ℕ, zero, suc, ◌+◌, ◌-◌, ◌<◌, ◌≤◌, List, [], ◌∷◌, ◌++◌, length, replicate, set, take, get_or, Some, refl, sym, ap, ◌∙◌, subst, arith, inl, inr, Option, None, MatchOption}
use Rattle.std.specs.Prelude.{slice_get}
use Rattle.std.proofs.lemmas.Bool.{cases_lt}
use Rattle.std.proofs.lemmas.List.{length_push, take-append-le, take-take, take_more, length-replicate}
use Rattle.std.proofs.lemmas.Option.{slice_get_within, slice_get-get_or}
use Rattle.arrayvec.specs.ArrayVec.{ArrayVec}
use Rattle.protocol_lang.specs.Meaning.{next_action}
use Rattle.room_spec.specs.Rooms.{RoomSpec, with_inputs, processes}
use Rattle.transcript.specs.declared.event.Event.{Event}
use Rattle.transcript.specs.declared.event.Event.TheVariants as events
use Rattle.transcript.specs.Reductions.{MayHave, with_input}
use Rattle.transcript.specs.Runs.{action_due, event_by, latest, process_of, IsEnabled}
use Rattle.transcript.proofs.CallerLemmas.{due_by, slice_get-append, slice_get-push, slice_get-take, take-push}
use Rattle.history_checker.specs.declared.process.Turn.TheVariants.{Write, Snap, Decide, Over}
use Rattle.history_checker.specs.declared.process.Process.{Process}
use Rattle.history_checker.specs.Processes.{turn_for, turn_after, IsAt}
use Rattle.history_checker.specs.Reductions.{MayHaveSome, StepsAlone}
use Rattle.history_checker.proofs.Breaking.{decision_due, snap_due, write_due}
use Rattle.history_checker.proofs.Tracking.{at_decide, at_snap, at_write, due_decide, due_write, at_other}

-- ---- one step

module _ (spec : RoomSpec) (mine others : List ℕ) (before : List Event) (same : length mine ≡ length others) where
  pub writes : (p v : ℕ) (process : Process) → process.turn ≡ Write v → process.writes < spec.rounds → IsAt (with_inputs spec mine) before p process → IsEnabled (with_inputs spec others) before (events.Write p v)
      → IsEnabled (with_inputs spec mine) before (events.Write p v) × IsAt (with_inputs spec mine) (before ++ events.Write p v ∷ []) p (record { input = process.input; turn = Snap; last = Some v; writes = process.writes + 1 })
  writes p v process turn few at may =
      let due = due_write (action_due (with_inputs spec mine) before p) (latest (event_by p) before) v (sym at.turn ∙ turn) in (
        record { process = omega (arith, may.process, same); in_turn = due.0; value = due.1; rounds = omega (arith, few, at.writes) },
        at_write (with_inputs spec mine) before p v process turn at,
      )

  pub snaps : (p : ℕ) (row : ArrayVec _) (process : Process) → process.turn ≡ Snap → IsAt (with_inputs spec mine) before p process → IsEnabled (with_inputs spec others) before (events.Snap p row)
      → IsEnabled (with_inputs spec mine) before (events.Snap p row) × IsAt (with_inputs spec mine) (before ++ events.Snap p row ∷ []) p (record { input = process.input; turn = turn_for (next_action spec.protocol process.input p process.writes row.items); last = process.last; writes = process.writes })
  snaps p row process turn at may = (
    record { process = omega (arith, may.process, same); width = may.width ∙ sym same; in_turn = may.in_turn; entries = λ q below. may.entries q (omega (arith, below, same)) },
    at_snap (with_inputs spec mine) before p row process turn at,
  )

  pub decides : (p v : ℕ) (process : Process) → process.turn ≡ Decide v → IsAt (with_inputs spec mine) before p process → IsEnabled (with_inputs spec others) before (events.Decide p v)
      → IsEnabled (with_inputs spec mine) before (events.Decide p v) × IsAt (with_inputs spec mine) (before ++ events.Decide p v ∷ []) p (record { input = process.input; turn = Over; last = process.last; writes = process.writes })
  decides p v process turn at may =
      let due = due_decide (with_inputs spec mine) before p v (latest (event_by p) before) refl (sym at.turn ∙ turn) in
      (record { process = omega (arith, may.process, same); in_turn = due.0; value = due.1 }, at_decide (with_inputs spec mine) before p v process turn at)

-- what is kept of a process is so with other inputs of the others
pub at_by : (spec : RoomSpec) (a b : List ℕ) → length a ≡ length b → (history : List Event) (p : ℕ) (process : Process) → get_or a p 0 ≡ get_or b p 0 → IsAt (with_inputs spec a) history p process → IsAt (with_inputs spec b) history p process
at_by spec a b same history p process is at = record {
  input = at.input ∙ is;
  turn = at.turn ∙ ap (λ due. turn_after due (latest (event_by p) history)) (due_by spec a b same history p is);
  last = at.last;
  writes = at.writes;
  snaps = at.snaps;
}

-- ---- the inputs that a process may have

pub may-nil : (spec : RoomSpec) (p input : ℕ) → MayHave spec [] p input
may-nil spec p input t event there = absurd cc

some_is : (x y : Event) → Some x ≡ Some y → x ≡ y
some_is x y h = cc

-- with one event more
pub may-push : (spec : RoomSpec) (history : List Event) (event : Event) (p input : ℕ) → MayHave spec history p input → (process_of event ≡ p → IsEnabled (with_input spec input) history event) → MayHave spec (history ++ event ∷ []) p input
may-push spec history event p input have may t x is own = elim (cases_lt t (length history)) [
  | inl below ↦ rw (take-append-le t history (event ∷ []) (omega arith)) (have t x (sym (slice_get-append history (event ∷ []) t below) ∙ is) own)
  | inr past ↦
      let within = slice_get_within (history ++ event ∷ []) t x is in
      let here : length history ≡ t = omega (arith, length_push history event) in
      let event_is : event ≡ x = some_is event x (sym (slice_get-push history event) ∙ ap (slice_get (history ++ event ∷ [])) here ∙ is) in
      subst (λ (n : ℕ). IsEnabled (with_input spec input) (take n (history ++ event ∷ [])) x) here (rw take-push (subst (IsEnabled (with_input spec input) history) event_is (may (ap process_of event_is ∙ own))))
]

pub may-last : (spec : RoomSpec) (history : List Event) (event : Event) (p input : ℕ) → MayHave spec (history ++ event ∷ []) p input → process_of event ≡ p → IsEnabled (with_input spec input) history event
may-last spec history event p input have own = subst (λ (before : List Event). IsEnabled (with_input spec input) before event) (take-push history event) (have (length history) event (slice_get-push history event) own)

pub take_few : (k : ℕ) (xs : List Event) → length (take k xs) ≤ k
take_few zero xs = omega arith
take_few (suc k) [] = omega arith
take_few (suc k) (x ∷ xs) = omega (arith, take_few k xs)

pub may-take : (spec : RoomSpec) (history : List Event) (p input k : ℕ) → MayHave spec history p input → MayHave spec (take k history) p input
may-take spec history p input k have t event there own = elim (cases_lt t k) [
  | inl below ↦ subst (λ (before : List Event). IsEnabled (with_input spec input) before event) (sym (take-take t k history (omega (arith, below)))) (have t event (sym (slice_get-take history k t below) ∙ there) own)
  | inr past ↦ absurd (let within = slice_get_within (take k history) t event there in omega (arith, past, within, take_few k history))
]

-- ---- the events of a list, one by one

module _ (spec : RoomSpec) (history : List Event) (p input t : ℕ) (d : Event) (within : t < length history) where
  abbrev here : Event
  here = get_or history t d

  there : slice_get history t ≡ Some here
  there = slice_get-get_or history t d within

  abbrev Steps : Option Process → Type 0
  Steps answer = MatchOption answer (IsEnabled (with_input spec input) (take t history) here → ⊥) (λ new. IsEnabled (with_input spec input) (take t history) here × IsAt (with_input spec input) (take (t + 1) history) p new)

  longer : (answer : Option Process) → MatchOption answer (IsEnabled (with_input spec input) (take t history) here → ⊥) (λ new. IsEnabled (with_input spec input) (take t history) here × IsAt (with_input spec input) (take t history ++ here ∷ []) p new) → Steps answer
  longer None never = never
  longer (Some new) both = (both.0, subst (λ (events : List Event). IsAt (with_input spec input) events p new) (sym (take_more history t d within)) both.1)

  pub steps : (process : Process) (answer : Option Process) → process_of here ≡ p → MayHaveSome spec history p → StepsAlone spec here process answer → IsAt (with_input spec input) (take t history) p process → Steps answer
  steps process answer own some alone at =
      let long : length (replicate (processes spec) input) ≡ length (replicate (processes spec) some.0) = length-replicate (processes spec) input ∙ sym (length-replicate (processes spec) some.0) in
      let both = alone (replicate (processes spec) input) (replicate (processes spec) some.0) (take t history) long (subst (λ (q : ℕ). IsAt (with_input spec input) (take t history) q process) (sym own) at) (some.1 t here there own) in
      longer answer (subst (λ (q : ℕ). MatchOption answer (IsEnabled (with_input spec input) (take t history) here → ⊥) (λ new. IsEnabled (with_input spec input) (take t history) here × IsAt (with_input spec input) (take t history ++ here ∷ []) q new)) own both)

  pub never_has : process_of here ≡ p → Steps None → MayHave spec history p input → ⊥
  never_has own never have = never (have t here there own)

  pub may_more : MayHave spec (take t history) p input → (process_of here ≡ p → IsEnabled (with_input spec input) (take t history) here) → MayHave spec (take (t + 1) history) p input
  may_more have may = subst (λ (events : List Event). MayHave spec events p input) (sym (take_more history t d within)) (may-push spec (take t history) here p input have may)

  pub at_more : (process : Process) → (process_of here ≡ p → ⊥) → IsAt (with_input spec input) (take t history) p process → IsAt (with_input spec input) (take (t + 1) history) p process
  at_more process apart at = subst (λ (events : List Event). IsAt (with_input spec input) events p process) (sym (take_more history t d within)) (at_other (with_input spec input) (take t history) here p process apart at)
