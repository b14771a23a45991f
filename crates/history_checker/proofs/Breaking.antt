-- The rule that an event breaks which may not follow those that the processes have followed.
use Rattle.std.proofs.Common.{◌≡◌, ◌≢◌, ℕ, ◌<◌, ◌≤◌, Bool, true, false, cond, eqb, ltb, ◌&&◌, ◌⊎◌, List, [], ◌∷◌, length, get_or, Option, Some, None, refl, sym, ap, ◌∙◌, arith, inl, inr}
use Rattle.std.specs.List.{count_by}
use Rattle.std.specs.Option.{option_or}
use Rattle.std.proofs.lemmas.Bool.{ltb-true, ltb-false}
use Rattle.std.proofs.lemmas.List.{get_or-map}
use Rattle.std.proofs.lemmas.List.Sums.{sum_by-cons}
use Rattle.arrayvec.specs.ArrayVec.{ArrayVec}
use Rattle.protocol_lang.specs.declared.meaning.Action.{Action}
use Rattle.protocol_lang.specs.declared.meaning.Action.TheVariants as actions
use Rattle.room_spec.specs.Rooms.{RoomSpec, processes}
use Rattle.transcript.specs.declared.event.Event.{Event}
use Rattle.transcript.specs.declared.event.Event.TheVariants as events
use Rattle.transcript.specs.Runs.{event_by, is_write_by, is_snap_by, latest, last_write, action_due, IsNothingOrSnap, IsSnap, IsWrite, IsEnabled}
use Rattle.history_checker.specs.declared.process.Rule.{Rule}
use Rattle.history_checker.specs.declared.process.Rule.TheVariants as rules
use Rattle.history_checker.specs.declared.process.Turn.TheVariants.{Write, Snap, Decide, Over}
use Rattle.history_checker.specs.declared.process.Process.{Process}
use Rattle.history_checker.specs.Processes.{turn_for, turn_after, is_action, lasts, IsAt, Tracks, FirstDiffers}
use Rattle.history_checker.specs.Reasons.{ShowsLast, IsWithinRounds, IsDue, Breaks}
use Rattle.history_checker.proofs.Tracking.{due_write, due_snap}

-- ---- the conditions are those of what may come

pub record Conditions (spec : RoomSpec) (before : List Event) (event : Event) : Type 0 where
  pub due : IsDue spec before event
  pub shows : (q : ℕ) → q < processes spec → ShowsLast before event q
  pub within : IsWithinRounds spec before event

pub conditions : (spec : RoomSpec) (before : List Event) (event : Event) → IsEnabled spec before event → Conditions spec before event
conditions spec before (events.Write p v) may = record { due = ((may.process, tt), may.in_turn, may.value); shows = λ q below. tt; within = may.rounds }
conditions spec before (events.Snap p row) may = record { due = ((may.process, may.width), may.in_turn, tt); shows = may.entries; within = tt }
conditions spec before (events.Decide p v) may = record { due = ((may.process, tt), may.in_turn, may.value); shows = λ q below. tt; within = tt }

pub enabled : (spec : RoomSpec) (before : List Event) (event : Event) → Conditions spec before event → IsEnabled spec before event
enabled spec before (events.Write p v) all = record { process = all.due.0.0; in_turn = all.due.1; value = all.due.2; rounds = all.within }
enabled spec before (events.Snap p row) all = record { process = all.due.0.0; width = all.due.0.1; in_turn = all.due.1; entries = all.shows }
enabled spec before (events.Decide p v) all = record { process = all.due.0.0; in_turn = all.due.1; value = all.due.2 }

-- an event that breaks a rule may not come
pub not_enabled : (spec : RoomSpec) (before : List Event) (event : Event) (rule : Rule) → Breaks spec before event rule → IsEnabled spec before event → ⊥
not_enabled spec before event rules.Process breaks may = breaks (conditions spec before event may).due.0.0
not_enabled spec before event rules.Length breaks may = breaks.1 (conditions spec before event may).due.0.1
not_enabled spec before event rules.Turn breaks may = breaks.1 (conditions spec before event may).due.1
not_enabled spec before event rules.Action breaks may = breaks.2 (conditions spec before event may).due.2
not_enabled spec before event (rules.Entry q) breaks may = breaks.3 ((conditions spec before event may).shows q breaks.1)
not_enabled spec before event rules.Rounds breaks may = breaks.2 (conditions spec before event may).within

-- ---- whose turn it isn't

pub action_is : (action : Action) → is_action (turn_for action) ≡ true
action_is (actions.Write v) = refl
action_is (actions.Decide v) = refl

-- a write that is not due breaks the turn or the action
write_in_turn : (due : Action) (last : Option Event) → is_action (turn_after due last) ≡ true → IsNothingOrSnap last
write_in_turn due None h = tt
write_in_turn due (Some (events.Write p v)) h = absurd cc
write_in_turn due (Some (events.Snap p row)) h = tt
write_in_turn due (Some (events.Decide p v)) h = absurd cc

pub write_due : (due : Action) (last : Option Event) → IsNothingOrSnap last → turn_after due last ≡ turn_for due
write_due due None h = refl
write_due due (Some (events.Write p v)) h = absurd h
write_due due (Some (events.Snap p row)) h = refl
write_due due (Some (events.Decide p v)) h = absurd h

decision_in_turn : (due : Action) (last : Option Event) → last ≢ None → is_action (turn_after due last) ≡ true → IsSnap last
decision_in_turn due None some h = absurd (some refl)
decision_in_turn due (Some (events.Write p v)) some h = absurd cc
decision_in_turn due (Some (events.Snap p row)) some h = tt
decision_in_turn due (Some (events.Decide p v)) some h = absurd cc

pub decision_due : (due : Action) (last : Option Event) → IsSnap last → turn_after due last ≡ turn_for due
decision_due due None h = absurd h
decision_due due (Some (events.Write p v)) h = absurd h
decision_due due (Some (events.Snap p row)) h = refl
decision_due due (Some (events.Decide p v)) h = absurd h

pub snap_due : (due : Action) (last : Option Event) → IsWrite last → turn_after due last ≡ Snap
snap_due due None h = absurd h
snap_due due (Some (events.Write p v)) h = refl
snap_due due (Some (events.Snap p row)) h = absurd h
snap_due due (Some (events.Decide p v)) h = absurd h

pub write_undue : (spec : RoomSpec) (all : List Process) (history : List Event) (p v : ℕ) (d : Process) → Tracks spec all history → p < length all
    → ((get_or all p d).turn ≡ Write v → ⊥) → Breaks spec history (events.Write p v) (cond (is_action (get_or all p d).turn) rules.Action rules.Turn)
write_undue spec all history p v d tracks within undue = undone (is_action (get_or all p d).turn) refl
  where
    at : IsAt spec history p (get_or all p d)
    at = tracks.each p d within

    room : p < processes spec
    room = omega (arith, tracks.count, within)

    undone : (b : Bool) → is_action (get_or all p d).turn ≡ b → Breaks spec history (events.Write p v) (cond b rules.Action rules.Turn)
    undone true h =
        let turn = write_in_turn (action_due spec history p) (latest (event_by p) history) (ap is_action (sym at.turn) ∙ h) in
        ((room, tt), turn, λ asked. undue (at.turn ∙ write_due (action_due spec history p) (latest (event_by p) history) turn ∙ ap turn_for asked))
    undone false h = (
      (room, tt),
      λ turn.
          let acts = ap is_action (at.turn ∙ write_due (action_due spec history p) (latest (event_by p) history) turn) ∙ action_is (action_due spec history p) in
          absurd (let never : false ≡ true = sym h ∙ acts in cc),
    )

or_none_both : {A : Type 0} (a b : Option A) → option_or a b ≡ None → (a ≡ None) × (b ≡ None)
or_none_both None b h = (refl, h)
or_none_both (Some x) b h = absurd cc

-- ---- counts of a process that has no event yet, or has taken a snapshot

no_write_yet : (p : ℕ) (event : Event) → event_by p event ≡ None → is_write_by p event ≡ false
no_write_yet p (events.Write q v) h = elim (eqb q p) as (λ t. cond t (Some (events.Write q v)) None ≡ None → t ≡ false) [ true ↦ λ k. absurd cc | false ↦ λ k. refl ] h
no_write_yet p (events.Snap q row) h = refl
no_write_yet p (events.Decide q v) h = refl

none_written : (p : ℕ) (history : List Event) → latest (event_by p) history ≡ None → count_by (is_write_by p) history ≡ 0
none_written p [] h = refl
none_written p (event ∷ history) h =
    let parts = or_none_both (latest (event_by p) history) (event_by p event) h in
    sum_by-cons (λ e. cond (is_write_by p e) 1 0) event history ∙ rw (no_write_yet p event parts.1) (omega (arith, none_written p history parts.0))

snap_is_by : (p : ℕ) (event : Event) → IsSnap (event_by p event) → is_snap_by p event ≡ true
snap_is_by p (events.Write q v) h = elim (eqb q p) as (λ t. IsSnap (cond t (Some (events.Write q v)) None) → false ≡ true) [ true ↦ λ k. absurd k | false ↦ λ k. absurd k ] h
snap_is_by p (events.Snap q row) h = elim (eqb q p) as (λ t. IsSnap (cond t (Some (events.Snap q row)) None) → t ≡ true) [ true ↦ λ k. refl | false ↦ λ k. absurd k ] h
snap_is_by p (events.Decide q v) h = elim (eqb q p) as (λ t. IsSnap (cond t (Some (events.Decide q v)) None) → false ≡ true) [ true ↦ λ k. absurd k | false ↦ λ k. absurd k ] h

snap_of : (a b : Option Event) → IsSnap (option_or a b) → IsSnap a ⊎ IsSnap b
snap_of None b h = inr h
snap_of (Some e) b h = inl h

counts_one : (b : Bool) → b ≡ true → ◌≡◌ {A = ℕ} (cond b 1 0) 1
counts_one true h = refl
counts_one false h = absurd cc

snap_counted : (p : ℕ) (history : List Event) → IsSnap (latest (event_by p) history) → 0 < count_by (is_snap_by p) history
snap_counted p [] h = absurd h
snap_counted p (event ∷ history) h = elim (snap_of (latest (event_by p) history) (event_by p event) h) [
  | inl later ↦ omega (arith, sum_by-cons (λ e. cond (is_snap_by p e) 1 0) event history, snap_counted p history later)
  | inr here ↦ omega (arith, sum_by-cons (λ e. cond (is_snap_by p e) 1 0) event history, counts_one (is_snap_by p event) (snap_is_by p event here))
]

-- ---- decisions

pub decision_undue : (spec : RoomSpec) (all : List Process) (history : List Event) (p v : ℕ) (d : Process) → Tracks spec all history → p < length all
    → ((get_or all p d).turn ≡ Decide v → ⊥) → Breaks spec history (events.Decide p v) (cond (ltb 0 (get_or all p d).writes && is_action (get_or all p d).turn) rules.Action rules.Turn)
decision_undue spec all history p v d tracks within undue = undone (ltb 0 (get_or all p d).writes) (is_action (get_or all p d).turn) refl refl
  where
    at : IsAt spec history p (get_or all p d)
    at = tracks.each p d within

    room : p < processes spec
    room = omega (arith, tracks.count, within)

    undone : (some acts : Bool) → ltb 0 (get_or all p d).writes ≡ some → is_action (get_or all p d).turn ≡ acts → Breaks spec history (events.Decide p v) (cond (some && acts) rules.Action rules.Turn)
    undone true true some acts =
        let began : latest (event_by p) history ≢ None = λ none. absurd (omega (arith, ltb-true 0 (get_or all p d).writes some, at.writes, none_written p history none)) in
        let turn = decision_in_turn (action_due spec history p) (latest (event_by p) history) began (ap is_action (sym at.turn) ∙ acts) in
        ((room, tt), turn, λ asked. undue (at.turn ∙ decision_due (action_due spec history p) (latest (event_by p) history) turn ∙ ap turn_for asked))
    undone true false some acts = (
      (room, tt),
      λ turn.
          let due = ap is_action (at.turn ∙ decision_due (action_due spec history p) (latest (event_by p) history) turn) ∙ action_is (action_due spec history p) in
          absurd (let never : false ≡ true = sym acts ∙ due in cc),
    )
    undone false acts none h = ((room, tt), λ turn. absurd (omega (arith, ltb-false 0 (get_or all p d).writes none, snap_counted p history turn, at.snaps)))

-- ---- snapshots, and writes beyond the rounds

pub snap_undue : (spec : RoomSpec) (all : List Process) (history : List Event) (p : ℕ) (row : ArrayVec (Option ℕ)) (d : Process) → Tracks spec all history → p < length all
    → length row.items ≡ length all → ((get_or all p d).turn ≡ Snap → ⊥) → Breaks spec history (events.Snap p row) rules.Turn
snap_undue spec all history p row d tracks within width undue =
    ((omega (arith, tracks.count, within), width ∙ tracks.count), λ turn. undue ((tracks.each p d within).turn ∙ snap_due (action_due spec history p) (latest (event_by p) history) turn))

last_shown : (spec : RoomSpec) (all : List Process) (history : List Event) (q : ℕ) → Tracks spec all history → q < length all → get_or (lasts all) q None ≡ last_write history q
last_shown spec all history q tracks within =
    let d : Process = record { input = 0; turn = Over; last = None; writes = 0 } in
    get_or-map (λ (process : Process). process.last) all q d None within ∙ (tracks.each q d within).last

pub entry_differs : (spec : RoomSpec) (all : List Process) (history : List Event) (p : ℕ) (row : ArrayVec (Option ℕ)) (d : Process) (q : ℕ) → Tracks spec all history → p < length all
    → length row.items ≡ length all → (get_or all p d).turn ≡ Snap → FirstDiffers row.items (lasts all) q → Breaks spec history (events.Snap p row) (rules.Entry q)
entry_differs spec all history p row d q tracks within width turn first =
    let due = due_snap (action_due spec history p) (latest (event_by p) history) (sym (tracks.each p d within).turn ∙ turn) in (
      ((omega (arith, tracks.count, within), width ∙ tracks.count), due, tt),
      omega (arith, first.within, width, tracks.count),
      λ r earlier. first.same_before r earlier ∙ last_shown spec all history r tracks (omega (arith, earlier, first.within, width)),
      λ shows. first.differs (shows ∙ sym (last_shown spec all history q tracks (omega (arith, first.within, width)))),
    )

pub too_many : (spec : RoomSpec) (all : List Process) (history : List Event) (p v : ℕ) (d : Process) → Tracks spec all history → p < length all
    → (get_or all p d).turn ≡ Write v → spec.rounds ≤ (get_or all p d).writes → Breaks spec history (events.Write p v) rules.Rounds
too_many spec all history p v d tracks within turn most =
    let at = tracks.each p d within in
    let due = due_write (action_due spec history p) (latest (event_by p) history) v (sym at.turn ∙ turn) in
    (((omega (arith, tracks.count, within), tt), due.0, due.1), λ q below. tt, λ few. omega (arith, few, at.writes, most))
