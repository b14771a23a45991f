-- The reason why an event may not follow, and that there is one alone.
use Rattle.std.proofs.Common.{◌≡◌, ℕ, zero, suc, ◌+◌, ◌-◌, ◌<◌, ◌≤◌, Bool, true, false, cond, eqb, ltb, List, [], ◌∷◌, ◌++◌, length, get_or, drop, take, Option, Some, None, refl, sym, zero-add, ap, ◌∙◌, subst, arith, inl, inr}
use Rattle.std.specs.Prelude.{slice_get}
use Rattle.std.specs.List.{count_by}
use Rattle.std.specs.Option.{option_or}
use Rattle.std.proofs.lemmas.Bool.{cases_lt, eqb-true, ltb-true, ltb-false}
use Rattle.std.proofs.lemmas.List.{drop-append-le, drop_all, length_push}
use Rattle.std.proofs.lemmas.Option.{get_or_from_slice_get, slice_get_within}
use Rattle.protocol_lang.specs.declared.meaning.Action.{Action}
use Rattle.protocol_lang.specs.declared.meaning.Action.TheVariants as actions
use Rattle.room_spec.specs.Rooms.{RoomSpec}
use Rattle.transcript.specs.declared.event.Event.{Event}
use Rattle.transcript.specs.declared.event.Event.TheVariants as events
use Rattle.transcript.specs.Runs.{process_of, event_by, written_by, is_write_by, latest, last_write, action_due, IsNothingOrSnap, IsSnap, IsWrite, IsEnabled, IsFirstBreak}
use Rattle.transcript.proofs.CallerLemmas.{latest-push, same, slice_get-append, slice_get-push}
use Rattle.history_checker.specs.declared.process.Rule.TheVariants as rules
use Rattle.history_checker.specs.declared.process.Turn.{Turn}
use Rattle.history_checker.specs.declared.process.Turn.TheVariants.{Write, Snap, Decide, Over}
use Rattle.history_checker.specs.declared.process.Process.{Process}
use Rattle.history_checker.specs.declared.history.Misfit.{Misfit}
use Rattle.history_checker.specs.declared.reason.Break.{Break}
use Rattle.history_checker.specs.declared.reason.LastWrite.{LastWrite}
use Rattle.history_checker.specs.declared.reason.Reason.{Reason}
use Rattle.history_checker.specs.declared.reason.Reason.TheVariants.{NoProcess, OtherLength, OutOfTurn, OtherAction, WrongEntry, TooManyWrites}
use Rattle.history_checker.specs.Misfits.{IsMisfit}
use Rattle.history_checker.specs.Processes.{turn_for, turn_after, is_action, without_write, could_do, lasts, IsAt, Tracks}
use Rattle.history_checker.specs.Reasons.{Breaks, MayDo, IsLastWriteAt, IsLastWrite, IsReason, IsBreak}
use Rattle.history_checker.proofs.Breaking.{action_is, write_due, decision_due, snap_due, not_enabled}
use Rattle.history_checker.proofs.Runs.{one_first}
use Rattle.history_checker.proofs.Tracking.{snap_follows, write_follows, decide_follows}

-- ---- the last write, found by going through the events

is_write : (q v : ℕ) (event : Event) → written_by q event ≡ Some v → event ≡ events.Write q v
is_write q v (events.Write p w) h = here (eqb p q) refl
  where
    here : (b : Bool) → eqb p q ≡ b → events.Write p w ≡ events.Write q v
    here true equal =
        let same_value : w ≡ v = (let found = rw equal at h in cc) in
        ap (λ (r : ℕ). events.Write r w) (eqb-true p q equal) ∙ ap (events.Write q) same_value
    here false other = absurd (let found = rw other at h in cc)
is_write q v (events.Snap p row) h = absurd cc
is_write q v (events.Decide p w) h = absurd cc

pub last_write_here : (before : List Event) (event : Event) (q v : ℕ) → written_by q event ≡ Some v
    → IsLastWrite (before ++ event ∷ []) q (Some (record { value = v; at = length before }))
last_write_here before event q v is = record {
  value = latest-push (written_by q) before event ∙ ap (λ (o : Option ℕ). option_or o (last_write before q)) is;
  there = slice_get-push before event ∙ ap Some (is_write q v event is);
  none_later = ap (λ (xs : List Event). last_write xs q) (drop_all (length before + 1) (before ++ event ∷ []) (omega (arith, length_push before event)));
}

pub last_write_still : (before : List Event) (event : Event) (q : ℕ) (last : Option LastWrite) → written_by q event ≡ None
    → IsLastWrite before q last → IsLastWrite (before ++ event ∷ []) q last
last_write_still before event q None none is = latest-push (written_by q) before event ∙ ap (λ (o : Option ℕ). option_or o (last_write before q)) none ∙ is
last_write_still before event q (Some last) none is =
    let within = slice_get_within before last.at (events.Write q last.value) is.there in
    record {
      value = latest-push (written_by q) before event ∙ ap (λ (o : Option ℕ). option_or o (last_write before q)) none ∙ is.value;
      there = slice_get-append before (event ∷ []) last.at within ∙ is.there;
      none_later =
          ap (λ (xs : List Event). last_write xs q) (drop-append-le (last.at + 1) before (event ∷ []) (omega (arith, within)))
          ∙ latest-push (written_by q) (drop (last.at + 1) before) event
          ∙ ap (λ (o : Option ℕ). option_or o (last_write (drop (last.at + 1) before) q)) none
          ∙ is.none_later;
    }

-- ---- what may come of a process

nothing_over : (spec : RoomSpec) (before : List Event) (event : Event) → turn_after (action_due spec before (process_of event)) (latest (event_by (process_of event)) before) ≡ Over
    → IsEnabled spec before event → ⊥
nothing_over spec before (events.Write p v) over may =
    let due = action_due spec before p in
    let acts = sym (action_is due) ∙ ap is_action (sym (write_due due (latest (event_by p) before) may.in_turn) ∙ over) in
    absurd cc
nothing_over spec before (events.Snap p row) over may =
    let never = sym (snap_due (action_due spec before p) (latest (event_by p) before) may.in_turn) ∙ over in
    absurd cc
nothing_over spec before (events.Decide p v) over may =
    let due = action_due spec before p in
    let acts = sym (action_is due) ∙ ap is_action (sym (decision_due due (latest (event_by p) before) may.in_turn) ∙ over) in
    absurd cc

nothing_spent : (spec : RoomSpec) (before : List Event) (event : Event) (v : ℕ) → turn_after (action_due spec before (process_of event)) (latest (event_by (process_of event)) before) ≡ Write v
    → spec.rounds ≤ count_by (is_write_by (process_of event)) before → IsEnabled spec before event → ⊥
nothing_spent spec before (events.Write p w) v turn most may = omega (arith, most, may.rounds)
nothing_spent spec before (events.Snap p row) v turn most may =
    let never = sym (snap_due (action_due spec before p) (latest (event_by p) before) may.in_turn) ∙ turn in
    absurd cc
nothing_spent spec before (events.Decide p w) v turn most may =
    let never = ap turn_for (sym may.value) ∙ sym (decision_due (action_due spec before p) (latest (event_by p) before) may.in_turn) ∙ turn in
    absurd cc

pub may_do : (spec : RoomSpec) (all : List Process) (before : List Event) (p : ℕ) (d : Process) → Tracks spec all before → p < length all
    → MayDo spec before p (could_do spec.rounds (get_or all p d))
may_do spec all before p d tracks within = by_rounds (ltb (get_or all p d).writes spec.rounds) refl
  where
    at : IsAt spec before p (get_or all p d)
    at = tracks.each p d within

    few : (turn : Turn) → (get_or all p d).turn ≡ turn → (get_or all p d).writes < spec.rounds → MayDo spec before p turn
    few (Write v) is below = (write_follows spec all before p v d tracks within is below).0
    few Snap is below = (lasts all, (snap_follows spec all before p (record { items = lasts all }) d tracks within is refl).0)
    few (Decide v) is below = (decide_follows spec all before p v d tracks within is).0
    few Over is below = λ event of_p. nothing_over spec before event (ap (λ (q : ℕ). turn_after (action_due spec before q) (latest (event_by q) before)) of_p ∙ sym at.turn ∙ is)

    most : (turn : Turn) → (get_or all p d).turn ≡ turn → spec.rounds ≤ (get_or all p d).writes → MayDo spec before p (without_write turn)
    most (Write v) is past = λ event of_p. nothing_spent spec before event v (ap (λ (q : ℕ). turn_after (action_due spec before q) (latest (event_by q) before)) of_p ∙ sym at.turn ∙ is)
        (subst (λ (q : ℕ). spec.rounds ≤ count_by (is_write_by q) before) (sym of_p) (omega (arith, past, at.writes)))
    most Snap is past = (lasts all, (snap_follows spec all before p (record { items = lasts all }) d tracks within is refl).0)
    most (Decide v) is past = (decide_follows spec all before p v d tracks within is).0
    most Over is past = λ event of_p. nothing_over spec before event (ap (λ (q : ℕ). turn_after (action_due spec before q) (latest (event_by q) before)) of_p ∙ sym at.turn ∙ is)

    by_rounds : (b : Bool) → ltb (get_or all p d).writes spec.rounds ≡ b → MayDo spec before p (cond b (get_or all p d).turn (without_write (get_or all p d).turn))
    by_rounds true below = few (get_or all p d).turn refl (ltb-true (get_or all p d).writes spec.rounds below)
    by_rounds false past = most (get_or all p d).turn refl (ltb-false (get_or all p d).writes spec.rounds past)

-- ---- what the protocol asks for

pub turn_asked : (spec : RoomSpec) (all : List Process) (before : List Event) (event : Event) (d : Process) → Tracks spec all before → process_of event < length all
    → Breaks spec before event rules.Action → (get_or all (process_of event) d).turn ≡ turn_for (action_due spec before (process_of event))
turn_asked spec all before (events.Write p v) d tracks within breaks = (tracks.each p d within).turn ∙ write_due (action_due spec before p) (latest (event_by p) before) breaks.1
turn_asked spec all before (events.Snap p row) d tracks within breaks = absurd (breaks.2 tt)
turn_asked spec all before (events.Decide p v) d tracks within breaks = (tracks.each p d within).turn ∙ decision_due (action_due spec before p) (latest (event_by p) before) breaks.1

pub asks : (spec : RoomSpec) (all : List Process) (before : List Event) (event : Event) (d : Process) → Tracks spec all before → process_of event < length all
    → Breaks spec before event rules.Action → is_action (get_or all (process_of event) d).turn ≡ true
asks spec all before event d tracks within breaks = ap is_action (turn_asked spec all before event d tracks within breaks) ∙ action_is (action_due spec before (process_of event))

same_action : (a b : Action) → turn_for a ≡ turn_for b → a ≡ b
same_action (actions.Write v) (actions.Write w) h = cc
same_action (actions.Write v) (actions.Decide w) h = absurd cc
same_action (actions.Decide v) (actions.Write w) h = absurd cc
same_action (actions.Decide v) (actions.Decide w) h = cc

pub is_asked : (spec : RoomSpec) (all : List Process) (before : List Event) (event : Event) (d : Process) (asked : Action) → Tracks spec all before → process_of event < length all
    → Breaks spec before event rules.Action → turn_for asked ≡ (get_or all (process_of event) d).turn → action_due spec before (process_of event) ≡ asked
is_asked spec all before event d asked tracks within breaks is =
    same_action (action_due spec before (process_of event)) asked (sym (turn_asked spec all before event d tracks within breaks) ∙ sym is)

-- ---- there is one reason alone

not_both : (last : Option Event) → IsNothingOrSnap last → IsWrite last → ⊥
not_both None a b = b
not_both (Some (events.Write p v)) a b = a
not_both (Some (events.Snap p row)) a b = b
not_both (Some (events.Decide p v)) a b = a

not_snap_and_write : (last : Option Event) → IsSnap last → IsWrite last → ⊥
not_snap_and_write None a b = a
not_snap_and_write (Some (events.Write p v)) a b = a
not_snap_and_write (Some (events.Snap p row)) a b = b
not_snap_and_write (Some (events.Decide p v)) a b = a

write_is_not_decision : (due : Action) (v w : ℕ) → due ≡ actions.Write v → due ≡ actions.Decide w → ⊥
write_is_not_decision due v w a b = absurd cc

same_write : (due : Action) (v w : ℕ) → due ≡ actions.Write v → due ≡ actions.Write w → v ≡ w
same_write due v w a b = cc

same_decision : (due : Action) (v w : ℕ) → due ≡ actions.Decide v → due ≡ actions.Decide w → v ≡ w
same_decision due v w a b = cc

pub one_turn : (spec : RoomSpec) (before : List Event) (p : ℕ) (s t : Turn) → MayDo spec before p s → MayDo spec before p t → s ≡ t
one_turn spec before p (Write v) (Write w) a b = ap Write (same_write (action_due spec before p) v w a.value b.value)
one_turn spec before p (Write v) Snap a b = absurd (not_both (latest (event_by p) before) a.in_turn b.1.in_turn)
one_turn spec before p (Write v) (Decide w) a b = absurd (write_is_not_decision (action_due spec before p) v w a.value b.value)
one_turn spec before p (Write v) Over a b = absurd (b (events.Write p v) refl a)
one_turn spec before p Snap (Write w) a b = absurd (not_both (latest (event_by p) before) b.in_turn a.1.in_turn)
one_turn spec before p Snap Snap a b = refl
one_turn spec before p Snap (Decide w) a b = absurd (not_snap_and_write (latest (event_by p) before) b.in_turn a.1.in_turn)
one_turn spec before p Snap Over a b = absurd (b (events.Snap p (record { items = a.0 })) refl a.1)
one_turn spec before p (Decide v) (Write w) a b = absurd (write_is_not_decision (action_due spec before p) w v b.value a.value)
one_turn spec before p (Decide v) Snap a b = absurd (not_snap_and_write (latest (event_by p) before) a.in_turn b.1.in_turn)
one_turn spec before p (Decide v) (Decide w) a b = ap Decide (same_decision (action_due spec before p) v w a.value b.value)
one_turn spec before p (Decide v) Over a b = absurd (b (events.Decide p v) refl a)
one_turn spec before p Over (Write w) a b = absurd (a (events.Write p w) refl b)
one_turn spec before p Over Snap a b = absurd (a (events.Snap p (record { items = b.0 })) refl b.1)
one_turn spec before p Over (Decide w) a b = absurd (a (events.Decide p w) refl b)
one_turn spec before p Over Over a b = refl

or_none_both : {A : Type 0} (a b : Option A) → option_or a b ≡ None → (a ≡ None) × (b ≡ None)
or_none_both None b h = (refl, h)
or_none_both (Some x) b h = absurd cc

-- where nothing is picked of all events, nothing is of each
pub none_of : {A : Type 0} (pick : Event → Option A) (xs : List Event) (t : ℕ) (event : Event) → latest pick xs ≡ None → slice_get xs t ≡ Some event → pick event ≡ None
none_of pick [] t event none there = absurd cc
none_of pick (x ∷ xs) zero event none there = let same : x ≡ event = cc in rw (← same) (or_none_both (latest pick xs) (pick x) none).1
none_of pick (x ∷ xs) (suc t) event none there = none_of pick xs t event (or_none_both (latest pick xs) (pick x) none).0 there

pub slice_get-drop : {X : Type 0} (xs : List X) (n i : ℕ) → slice_get (drop n xs) i ≡ slice_get xs (n + i)
slice_get-drop [] zero i = ap (slice_get []) (sym (zero-add i))
slice_get-drop [] (suc n) i = refl
slice_get-drop (x ∷ xs) zero i = ap (slice_get (x ∷ xs)) (sym (zero-add i))
slice_get-drop {X = X} (x ∷ xs) (suc n) i = slice_get-drop xs n i ∙ ap (slice_get {X = X} (x ∷ xs)) (let e : suc (n + i) ≡ suc n + i = omega arith in e)

not_later : (before : List Event) (q : ℕ) (a b : LastWrite) → IsLastWriteAt before q a → IsLastWriteAt before q b → a.at < b.at → ⊥
not_later before q a b one other earlier =
    let k : ℕ = b.at - (a.at + 1) in
    let place : a.at + 1 + k ≡ b.at = omega (arith, earlier) in
    let there = slice_get-drop before (a.at + 1) k ∙ ap (slice_get before) place ∙ other.there in
    let none = none_of (written_by q) (drop (a.at + 1) before) k (events.Write q b.value) one.none_later there in
    absurd (let never = rw (same q) at none in cc)

same_last : (a b : LastWrite) → a.value ≡ b.value → a.at ≡ b.at → a ≡ b
same_last a b value at = ap (λ (v : ℕ). record { value = v; at = a.at }) value ∙ ap (λ (n : ℕ). record { value = b.value; at = n }) at

one_last_write : (before : List Event) (q : ℕ) (s t : Option LastWrite) → IsLastWrite before q s → IsLastWrite before q t → s ≡ t
one_last_write before q None None a b = refl
one_last_write before q None (Some t) a b = absurd (let never = sym a ∙ b.value in cc)
one_last_write before q (Some s) None a b = absurd (let never = sym b ∙ a.value in cc)
one_last_write before q (Some s) (Some t) a b =
    let value : s.value ≡ t.value = (let both = sym a.value ∙ b.value in cc) in
    ap Some (same_last s t value (elim (cases_lt s.at t.at) [
      | inl earlier ↦ absurd (not_later before q s t a b earlier)
      | inr past ↦ elim (cases_lt t.at s.at) [ inl later ↦ absurd (not_later before q t s b a later) | inr le ↦ omega (arith, past, le) ]
    ]))

same_entry : (spec : RoomSpec) (before : List Event) (event : Event) (q r : ℕ) (s t : Option LastWrite) → IsReason spec before event (WrongEntry q s) → IsReason spec before event (WrongEntry r t)
    → WrongEntry q s ≡ WrongEntry r t
same_entry spec before event q r s t a b = elim (cases_lt q r) [
  | inl earlier ↦ absurd (a.0.3 (b.0.2 q earlier))
  | inr past ↦ elim (cases_lt r q) [
    | inl later ↦ absurd (b.0.3 (a.0.2 r later))
    | inr le ↦
        let same_place : q ≡ r = omega (arith, past, le) in
        ap (λ (p : ℕ). WrongEntry p s) same_place ∙ ap (WrongEntry r) (one_last_write before r s t (subst (λ (p : ℕ). IsLastWrite before p s) same_place a.1) b.1)
  ]
]

pub one_reason : (spec : RoomSpec) (before : List Event) (event : Event) (s t : Reason) → IsReason spec before event s → IsReason spec before event t → s ≡ t
one_reason spec before event NoProcess NoProcess a b = refl
one_reason spec before event NoProcess OtherLength a b = absurd (a b.0)
one_reason spec before event NoProcess (OutOfTurn n2) a b = absurd (a b.0.0.0)
one_reason spec before event NoProcess (OtherAction x2) a b = absurd (a b.0.0.0)
one_reason spec before event NoProcess (WrongEntry q2 w2) a b = absurd (a b.0.0.0.0)
one_reason spec before event NoProcess TooManyWrites a b = absurd (a b.0.0.0)
one_reason spec before event OtherLength NoProcess a b = absurd (b a.0)
one_reason spec before event OtherLength OtherLength a b = refl
one_reason spec before event OtherLength (OutOfTurn n2) a b = absurd (a.1 b.0.0.1)
one_reason spec before event OtherLength (OtherAction x2) a b = absurd (a.1 b.0.0.1)
one_reason spec before event OtherLength (WrongEntry q2 w2) a b = absurd (a.1 b.0.0.0.1)
one_reason spec before event OtherLength TooManyWrites a b = absurd (a.1 b.0.0.1)
one_reason spec before event (OutOfTurn n1) NoProcess a b = absurd (b a.0.0.0)
one_reason spec before event (OutOfTurn n1) OtherLength a b = absurd (b.1 a.0.0.1)
one_reason spec before event (OutOfTurn n1) (OutOfTurn n2) a b = ap OutOfTurn (one_turn spec before (process_of event) n1 n2 a.1 b.1)
one_reason spec before event (OutOfTurn n1) (OtherAction x2) a b = absurd (a.0.1 b.0.1)
one_reason spec before event (OutOfTurn n1) (WrongEntry q2 w2) a b = absurd (a.0.1 b.0.0.1)
one_reason spec before event (OutOfTurn n1) TooManyWrites a b = absurd (a.0.1 b.0.1)
one_reason spec before event (OtherAction x1) NoProcess a b = absurd (b a.0.0.0)
one_reason spec before event (OtherAction x1) OtherLength a b = absurd (b.1 a.0.0.1)
one_reason spec before event (OtherAction x1) (OutOfTurn n2) a b = absurd (b.0.1 a.0.1)
one_reason spec before event (OtherAction x1) (OtherAction x2) a b = ap OtherAction (sym a.1 ∙ b.1)
one_reason spec before event (OtherAction x1) (WrongEntry q2 w2) a b = absurd (a.0.2 b.0.0.2)
one_reason spec before event (OtherAction x1) TooManyWrites a b = absurd (a.0.2 b.0.2)
one_reason spec before event (WrongEntry q1 w1) NoProcess a b = absurd (b a.0.0.0.0)
one_reason spec before event (WrongEntry q1 w1) OtherLength a b = absurd (b.1 a.0.0.0.1)
one_reason spec before event (WrongEntry q1 w1) (OutOfTurn n2) a b = absurd (b.0.1 a.0.0.1)
one_reason spec before event (WrongEntry q1 w1) (OtherAction x2) a b = absurd (b.0.2 a.0.0.2)
one_reason spec before event (WrongEntry q1 w1) (WrongEntry q2 w2) a b = same_entry spec before event q1 q2 w1 w2 a b
one_reason spec before event (WrongEntry q1 w1) TooManyWrites a b = absurd (a.0.3 (b.1 q1 a.0.1))
one_reason spec before event TooManyWrites NoProcess a b = absurd (b a.0.0.0)
one_reason spec before event TooManyWrites OtherLength a b = absurd (b.1 a.0.0.1)
one_reason spec before event TooManyWrites (OutOfTurn n2) a b = absurd (b.0.1 a.0.1)
one_reason spec before event TooManyWrites (OtherAction x2) a b = absurd (b.0.2 a.0.2)
one_reason spec before event TooManyWrites (WrongEntry q2 w2) a b = absurd (b.0.3 (a.1 q2 b.0.1))
one_reason spec before event TooManyWrites TooManyWrites a b = refl

same_break : (a b : Break) → a.at ≡ b.at → a.reason ≡ b.reason → a ≡ b
same_break a b at reason = ap (λ (n : ℕ). record { at = n; reason = a.reason }) at ∙ ap (λ (r : Reason). record { at = b.at; reason = r }) reason

same_some : (a b : Event) → Some a ≡ Some b → a ≡ b
same_some a b h = cc

pub one_break : (spec : RoomSpec) (history : List Event) (a b : Break) → IsBreak spec history a → IsBreak spec history b → a ≡ b
one_break spec history a b one other =
    let at : a.at ≡ b.at = one_first spec history a.at b.at one.first other.first in
    let event : one.first.event ≡ other.first.event = same_some one.first.event other.first.event (sym one.first.there ∙ ap (slice_get history) at ∙ other.first.there) in
    let P : ℕ → Type 0 = λ n. IsReason spec (take n history) one.first.event a.reason in
    let moved : IsReason spec (take b.at history) one.first.event a.reason = subst P at one.reason in
    same_break a b at (one_reason spec (take b.at history) other.first.event a.reason b.reason (subst (λ (e : Event). IsReason spec (take b.at history) e a.reason) event moved) other.reason)

-- ---- from where following ends

pub first_of : (spec : RoomSpec) (history : List Event) (all : List Process) (misfit : Misfit) → IsMisfit spec history all misfit → IsFirstBreak spec history misfit.at
first_of spec history all misfit is = record {
  event = is.event;
  there = is.there;
  breaks = not_enabled spec (take misfit.at history) is.event misfit.rule is.breaks;
  run_before = is.run_before;
}

pub break_of : (spec : RoomSpec) (history : List Event) (all : List Process) (misfit : Misfit) (event : Event) (reason : Reason) → IsMisfit spec history all misfit → event ≡ get_or history misfit.at event
    → IsReason spec (take misfit.at history) event reason → IsBreak spec history (record { at = misfit.at; reason = reason })
unfolding first_of
break_of spec history all misfit event reason is here why =
    let same_event : event ≡ is.event = here ∙ get_or_from_slice_get history misfit.at is.event event is.there in
    record { first = first_of spec history all misfit is; reason = subst (λ (e : Event). IsReason spec (take misfit.at history) e reason) same_event why }
