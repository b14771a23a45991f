-- The processes of a reduction, each with some simulator's own input, after one more event.
use Rattle.std.proofs.Common.{◌≡◌, ◌≢◌, ℕ, zero, suc, ◌+◌, ◌<◌, ◌≤◌, List, [], ◌∷◌, ◌++◌, length, replicate, set, take, get_or, Some, refl, sym, ap, ◌∙◌, subst, arith, inl, inr, true, Result, MatchResult, Ok, Err, IsOk, is_ok, Bool, MatchBool, false}
use Rattle.std.specs.Prelude.{◌↔◌, slice_get}
use Rattle.std.specs.List.{Contains}
use Rattle.std.proofs.lemmas.Bool.{cases_eq, cases_lt}
use Rattle.std.proofs.lemmas.Grind.{get_or_default_zero}
use Rattle.std.proofs.lemmas.List.{get_or-replicate, get_or-set_other, get_or-set_same, length-replicate, length-set, take-take, take_more}
use Rattle.std.proofs.lemmas.Option.{slice_get-get_or, slice_get_within}
use Rattle.room_spec.specs.Rooms.{RoomSpec, AreOwn, IsWithinLimits, has_own, is_reduction, processes, with_inputs}
use Rattle.room_spec.specs.declared.version.Version.{Version}
use Rattle.transcript.specs.declared.event.Event.{Event}
use Rattle.transcript.specs.Reductions.{AreFromOwn, IsFirstBreakOf, IsRunOf, MayHave, with_input}
use Rattle.transcript.specs.Runs.{process_of, IsEnabled, IsRun}
use Rattle.transcript.proofs.CallerLemmas.{enabled_by, may_have, process_below, run_singly, singly, slice_get-push, slice_get-take, IsRun-nil, IsRun-push, take-push}
use Rattle.history_checker.specs.declared.process.Process.{Process}
use Rattle.history_checker.specs.declared.process.Rule.{Rule}
use Rattle.history_checker.specs.Processes.{IsAt, Tracks, Follows}
use Rattle.history_checker.specs.Reasons.{Breaks}
use Rattle.history_checker.specs.Reductions.{TracksSome}
use Rattle.history_checker.proofs.Alone.{at_by, may-last, take_few, may-take}
use Rattle.history_checker.proofs.Breaking.{not_enabled}

-- ---- before the first event

first_own : (own : List ℕ) (version : Version) (inputs : List ℕ) (m p : ℕ) → AreOwn own version inputs m → has_own own ≡ true → p < length inputs → Contains own (get_or inputs p 0)
first_own [] version inputs m p are some below = absurd cc
first_own (own ∷ others) version inputs m p are some below = (0, omega arith, sym (ap (λ (xs : List ℕ). get_or xs p 0) are.1 ∙ get_or-replicate (length inputs) p own 0 below))

pub opened : (spec : RoomSpec) (all : List Process) → IsWithinLimits spec → is_reduction spec ≡ true → Tracks spec all [] → TracksSome spec all []
opened spec all limits reduction tracks = record {
  inputs = spec.inputs;
  from_own = record { many = refl; own = λ p below. first_own spec.own spec.version spec.inputs spec.simulators p limits.own reduction below };
  run = IsRun-nil (with_inputs spec spec.inputs);
  tracks = record { count = tracks.count; each = λ p d below. (let at = tracks.each p d below in record { input = at.input; turn = at.turn; last = at.last; writes = at.writes; snaps = at.snaps }) };
}

-- ---- one more event

pub one_more : (spec : RoomSpec) (all new : List Process) (history : List Event) (event : Event) (some : TracksSome spec all history) → IsEnabled (with_inputs spec some.inputs) history event → Tracks (with_inputs spec some.inputs) new (history ++ event ∷ []) → TracksSome spec new (history ++ event ∷ [])
one_more spec all new history event some may tracks = record { inputs = some.inputs; from_own = some.from_own; run = IsRun-push (with_inputs spec some.inputs) history event some.run may; tracks = tracks }

-- ---- another input

pub below_all : (spec : RoomSpec) (all : List Process) (history : List Event) → TracksSome spec all history → (t : ℕ) (event : Event) → slice_get history t ≡ Some event → process_of event < processes spec
below_all spec all history some t event there = subst (λ (n : ℕ). process_of event < n) some.from_own.many (process_below (with_inputs spec some.inputs) (take t history) event (some.run t event there))

pub had : (spec : RoomSpec) (all : List Process) (history : List Event) → TracksSome spec all history → (p : ℕ) → p < processes spec → (input : ℕ) × MayHave spec history p input
had spec all history some p below = (get_or some.inputs p 0, may_have spec some.inputs some.from_own.many history some.run p below)

module _ (spec : RoomSpec) (all : List Process) (history : List Event) (some : TracksSome spec all history) (p input : ℕ) (below : p < processes spec) where
  there : p < length some.inputs
  there = omega (arith, below, some.from_own.many)

  abbrev others : List ℕ
  others = set some.inputs p input

  own_now : get_or others p 0 ≡ input
  own_now = get_or-set_same some.inputs p input 0 there

  other_now : (q : ℕ) → q ≢ p → get_or others q 0 ≡ get_or some.inputs q 0
  other_now q apart = get_or-set_other some.inputs p q input 0 apart

  pub many : length others ≡ processes spec
  many = length-set some.inputs p input ∙ some.from_own.many

  pub owned : Contains spec.own input → (q : ℕ) → q < processes spec → Contains spec.own (get_or others q 0)
  owned own q in_room = elim (cases_eq q p) [
    | inl same ↦ subst (λ (r : ℕ). Contains spec.own (get_or others r 0)) (sym same) (subst (Contains spec.own) (sym own_now) own)
    | inr apart ↦ subst (Contains spec.own) (sym (other_now q apart)) (some.from_own.own q in_room)
  ]

  pub have_all : MayHave spec history p input → (q : ℕ) → q < processes spec → MayHave spec history q (get_or others q 0)
  have_all have q in_room = elim (cases_eq q p) [
    | inl same ↦ subst (λ (r : ℕ). MayHave spec history r (get_or others r 0)) (sym same) (subst (MayHave spec history p) (sym own_now) have)
    | inr apart ↦ subst (MayHave spec history q) (sym (other_now q apart)) (may_have spec some.inputs some.from_own.many history some.run q in_room)
  ]

  same_length : length some.inputs ≡ length others
  same_length = sym (length-set some.inputs p input)

  pub tracked : (process : Process) → IsAt (with_input spec input) history p process → Tracks (with_inputs spec others) (set all p process) history
  tracked process at = record {
    count = length-set all p process ∙ some.tracks.count ∙ same_length;
    each = λ q d within. elim (cases_eq q p) [
      | inl same ↦
          let here = at_by spec (replicate (processes spec) input) others (length-replicate (processes spec) input ∙ sym many) history p process (get_or-replicate (processes spec) p input 0 below ∙ sym own_now) at in
          subst (λ (r : ℕ). IsAt (with_inputs spec others) history r (get_or (set all p process) r d)) (sym same)
          (subst (IsAt (with_inputs spec others) history p) (sym (get_or-set_same all p process d (omega (arith, some.tracks.count, there)))) here)
      | inr apart ↦
          subst (IsAt (with_inputs spec others) history q) (sym (get_or-set_other all p q process d apart))
          (at_by spec some.inputs others same_length history q (get_or all q d) (sym (other_now q apart)) (some.tracks.each q d (omega (arith, within, length-set all p process))))
    ];
  }

  abbrev pub switched : (process : Process) → Contains spec.own input → MayHave spec history p input → IsAt (with_input spec input) history p process → TracksSome spec (set all p process) history
  switched process own have at = record {
    inputs = others;
    from_own = record { many = many; own = owned own };
    run = run_singly spec others many history (below_all spec all history some) (have_all have);
    tracks = tracked process at;
  }

  -- an event of the process that may not follow with this input among the others may not with this input
  pub never_own : (event : Event) (rule : Rule) → process_of event ≡ p → Breaks (with_inputs spec others) history event rule → MayHave spec (history ++ event ∷ []) p input → ⊥
  never_own event rule own breaks have =
      let may = may-last spec history event p input have own in
      let is : get_or (replicate (processes spec) input) (process_of event) 0 ≡ get_or others (process_of event) 0 = rw own (get_or-replicate (processes spec) p input 0 below ∙ sym own_now) in
      not_enabled (with_inputs spec others) history event rule breaks (enabled_by spec (replicate (processes spec) input) others (length-replicate (processes spec) input ∙ sym many) history event is may)

-- ---- no input

pub own_few : (own : List ℕ) (version : Version) (inputs : List ℕ) (m : ℕ) → AreOwn own version inputs m → length own ≤ m
own_few [] version inputs m are = omega arith
own_few (input ∷ own) version inputs m are = omega (arith, are.2)

pub no_process : (spec : RoomSpec) (history : List Event) (event : Event) → (process_of event < processes spec → ⊥) → (input : ℕ) → MayHave spec (history ++ event ∷ []) (process_of event) input → ⊥
no_process spec history event never input have = never (subst (λ (n : ℕ). process_of event < n) (length-replicate (processes spec) input) (process_below (with_input spec input) history event (may-last spec history event (process_of event) input have refl)))

pub none_left : (spec : RoomSpec) (history : List Event) (event : Event) → ((i : ℕ) → i < length spec.own → MayHave spec (history ++ event ∷ []) (process_of event) (get_or spec.own i 0) → ⊥) → IsRunOf spec (history ++ event ∷ []) → ⊥
none_left spec history event none run =
    let each = singly spec (history ++ event ∷ []) run in
    let one = each.inputs (process_of event) (each.room (length history) event (slice_get-push history event)) in
    let at = one.1 in
    let read : get_or spec.own at.0 0 ≡ one.0 = sym (get_or_default_zero spec.own at.0 one.0 at.1) ∙ at.2 in
    none at.0 at.1 (subst (MayHave spec (history ++ event ∷ []) (process_of event)) (sym read) one.2)

-- ---- the first event with which they are no run

pub run_of : (spec : RoomSpec) (all : List Process) (history : List Event) → TracksSome spec all history → IsRunOf spec history
run_of spec all history some = record { inputs = some.inputs; from_own = some.from_own; run = some.run }

run-take : (spec : RoomSpec) (history : List Event) (k : ℕ) → IsRun spec history → IsRun spec (take k history)
run-take spec history k run t event is = elim (cases_lt t k) [
  | inl below ↦ subst (λ (before : List Event). IsEnabled spec before event) (sym (take-take t k history (omega (arith, below)))) (run t event (sym (slice_get-take history k t below) ∙ is))
  | inr past ↦ absurd (let within = slice_get_within (take k history) t event is in omega (arith, past, within, take_few k history))
]

pub run_of-take : (spec : RoomSpec) (history : List Event) (k : ℕ) → IsRunOf spec history → IsRunOf spec (take k history)
run_of-take spec history k run = record { inputs = run.inputs; from_own = run.from_own; run = run-take (with_inputs spec run.inputs) history k run.run }

pub breaks_at : (spec : RoomSpec) (all : List Process) (events : List Event) (t : ℕ) (d : Event) → t < length events → TracksSome spec all (take t events) → (IsRunOf spec (take t events ++ get_or events t d ∷ []) → ⊥) → IsFirstBreakOf spec events t
breaks_at spec all events t d within some breaks = record {
  event = get_or events t d;
  there = slice_get-get_or events t d within;
  breaks = λ run. breaks (let next : suc t ≡ t + 1 = omega arith in subst (IsRunOf spec) (ap (λ (n : ℕ). take n events) next ∙ take_more events t d within) run);
  run_before = run_of spec all (take t events) some;
}

pub no_run_of : (spec : RoomSpec) (events : List Event) (t : ℕ) → IsFirstBreakOf spec events t → IsRunOf spec events → ⊥
no_run_of spec events t first run = first.breaks (run_of-take spec events (suc t) run)

not_before : (spec : RoomSpec) (events : List Event) (s t : ℕ) → IsFirstBreakOf spec events s → IsFirstBreakOf spec events t → s < t → ⊥
not_before spec events s t a b earlier = a.breaks (subst (IsRunOf spec) (take-take (suc s) t events (omega (arith, earlier))) (run_of-take spec (take t events) (suc s) b.run_before))

pub one_first_of : (spec : RoomSpec) (events : List Event) (s t : ℕ) → IsFirstBreakOf spec events s → IsFirstBreakOf spec events t → s ≡ t
one_first_of spec events s t a b = elim (cases_lt s t) [
  | inl earlier ↦ absurd (not_before spec events s t a b earlier)
  | inr no_earlier ↦ elim (cases_lt t s) [ inl later ↦ absurd (not_before spec events t s b a later) | inr le ↦ omega arith ]
]

pub judged_run : (spec : RoomSpec) (events : List Event) (result : Result (Unit {0}) ℕ) → MatchResult result (λ done. IsRunOf spec events) (IsFirstBreakOf spec events) → IsOk result ↔ IsRunOf spec events
judged_run spec events (Ok done) run = (λ ok. run, λ any. refl)
judged_run spec events (Err t) first = (λ ok. absurd cc, λ run. absurd (no_run_of spec events t first run))

pub judged_first : (spec : RoomSpec) (events : List Event) (result : Result (Unit {0}) ℕ) → MatchResult result (λ done. IsRunOf spec events) (IsFirstBreakOf spec events) → (t : ℕ) → (result ≡ Err t) ↔ IsFirstBreakOf spec events t
judged_first spec events (Ok done) run t = (λ is. absurd cc, λ first. absurd (no_run_of spec events t first run))
judged_first spec events (Err s) first t = (λ is. subst (IsFirstBreakOf spec events) (let same : s ≡ t = cc in same) first, λ other. ap Err (one_first_of spec events s t first other))

-- ---- the answer on one more event

-- with the inputs that the processes have by now
pub followed : (spec : RoomSpec) (all new : List Process) (history : List Event) (event : Event) (answer : Result (Unit {0}) Rule) (some : TracksSome spec all history) → Follows (with_inputs spec some.inputs) event all answer new
    → MatchResult answer (λ done. TracksSome spec new (history ++ event ∷ [])) (λ rule. TracksSome spec new history × Breaks (with_inputs spec some.inputs) history event rule)
followed spec all new history event (Ok done) some follows = let both = follows history some.tracks in one_more spec all new history event some both.0 both.1
followed spec all new history event (Err rule) some follows = let both = follows history some.tracks in (subst (λ (l : List Process). TracksSome spec l history) (sym both.1) some, both.0)

-- ---- the own input of a simulator

pub own_read : (own : List ℕ) (i input : ℕ) → Some input ≡ slice_get own i → get_or own i 0 ≡ input
own_read [] i input is = absurd cc
own_read (x ∷ xs) zero input is = let same : x ≡ input = cc in same
own_read (x ∷ xs) (suc i) input is = own_read xs i input is

pub own_there : (own : List ℕ) (i input : ℕ) → Some input ≡ slice_get own i → Contains own input
own_there own i input is =
    let within = slice_get_within own i input (sym is) in
    (i, within, get_or_default_zero own i input within ∙ own_read own i input is)

-- without its events so far the process has none of them
pub never_again : (spec : RoomSpec) (history : List Event) (event : Event) (p input : ℕ) → process_of event ≡ p → (MayHave spec history p input → ⊥) → MayHave spec (history ++ event ∷ []) (process_of event) input → ⊥
never_again spec history event p input own never have =
    never (subst (λ (events : List Event). MayHave spec events p input) (take-push history event) (may-take spec (history ++ event ∷ []) p input (length history) (subst (λ (q : ℕ). MayHave spec (history ++ event ∷ []) q input) own have)))

-- the answer with another input of the event's process
module _ (spec : RoomSpec) (all new : List Process) (history : List Event) (event : Event) (some : TracksSome spec all history) (p input i : ℕ) (below : p < processes spec) where
  abbrev Answered : Bool → Type 0
  Answered ok = MatchBool ok (TracksSome spec new (history ++ event ∷ [])) (TracksSome spec new history × (i < length spec.own → MayHave spec (history ++ event ∷ []) (process_of event) input → ⊥))

  pub with_other : (process : Process) (answer : Result (Unit {0}) Rule) → process_of event ≡ p → Contains spec.own input → MayHave spec history p input × IsAt (with_input spec input) history p process → Follows (with_inputs spec (set some.inputs p input)) event (set all p process) answer new → Answered (is_ok answer)
  with_other process (Ok done) own has at follows = followed spec (set all p process) new history event (Ok done) (switched spec all history some p input below process has at.0 at.1) follows
  with_other process (Err rule) own has at follows =
      let both = followed spec (set all p process) new history event (Err rule) (switched spec all history some p input below process has at.0 at.1) follows in
      (both.0, λ in_list have. never_own spec all history some p input below event rule own both.1 (subst (λ (q : ℕ). MayHave spec (history ++ event ∷ []) q input) own have))

-- the answer of the processes as they are
pub on_ok : (spec : RoomSpec) (all new : List Process) (history : List Event) (event : Event) (some : TracksSome spec all history) (answer : Result (Unit {0}) Rule) → is_ok answer ≡ true → Follows (with_inputs spec some.inputs) event all answer new → TracksSome spec new (history ++ event ∷ [])
on_ok spec all new history event some (Ok done) ok follows = followed spec all new history event (Ok done) some follows
on_ok spec all new history event some (Err rule) ok follows = absurd cc

pub on_err : (spec : RoomSpec) (all new : List Process) (history : List Event) (event : Event) (some : TracksSome spec all history) (answer : Result (Unit {0}) Rule) → is_ok answer ≡ false → Follows (with_inputs spec some.inputs) event all answer new → TracksSome spec new history
on_err spec all new history event some (Ok done) ok follows = absurd cc
on_err spec all new history event some (Err rule) ok follows = (followed spec all new history event (Err rule) some follows).0

-- one simulator's own input more
pub none_more : (spec : RoomSpec) (events : List Event) (p i : ℕ) → ((k : ℕ) → k < i → k < length spec.own → MayHave spec events p (get_or spec.own k 0) → ⊥) → (i < length spec.own → MayHave spec events p (get_or spec.own i 0) → ⊥) → (k : ℕ) → k < i + 1 → k < length spec.own → MayHave spec events p (get_or spec.own k 0) → ⊥
none_more spec events p i before here k below within have = elim (cases_lt k i) [
  | inl earlier ↦ before k earlier within have
  | inr late ↦
      let same : k ≡ i = omega (arith, below, late) in
      here (subst (λ (j : ℕ). j < length spec.own) same within) (subst (λ (j : ℕ). MayHave spec events p (get_or spec.own j 0)) same have)
]
