-- The events of a history in the order of time are a run.
use Rattle.std.proofs.Common.{◌≡◌, ◌≢◌, ℕ, zero, suc, ◌+◌, ◌-◌, ◌<◌, ◌≤◌, Bool, true, false, cond, ltb, get_or, List, [], ◌∷◌, ◌++◌, length, map, Some, None, refl, sym, ap, ◌∙◌, subst, arith, inl, inr, append-nil}
use Rattle.std.specs.Prelude.{◌&&◌}
use Rattle.std.proofs.lemmas.Bool.{cases_eq, cases_lt, cases_Bool, lt-ltb, ltb-true, and_parts}
use Rattle.std.proofs.lemmas.List.FromFn.{length-map-range_with_len, get_or-map-range_with_len}
use Rattle.protocol_lang.specs.declared.meaning.Action.TheVariants as actions
use Rattle.room_spec.specs.Rooms.{RoomSpec, processes}
use Rattle.transcript.specs.declared.event.Event.{Event}
use Rattle.transcript.specs.declared.event.Event.TheVariants.{Write, Snap, Decide}
use Rattle.transcript.specs.Runs.{IsRun}
use Rattle.transcript.proofs.CallerLemmas.{IsRun-nil, IsRun-push}
use Rattle.room_core.specs.Points.{Point, IsFixedIn}
use Rattle.room_core.specs.Timelines.{Timeline, IsTimeline, IsUnread, AreCounted, AreDecided, Moves, nothing, writes, snaps, decides}
use Rattle.ws_history.specs.Histories.{Source, Snapshot, row_of, entry_of, shown, shown_row, asks_after}
use Rattle.ws_history.specs.Passed.{IsOfPassed, IsKnown}
use Rattle.ws_history.specs.Linearizations.{event_of, events_before, events_of, IsSourceOf}
use Rattle.ws_history.proofs.OwnEvents.{deciding, told, told_same, told_write, told_snap, told_last, own_push, other_push}
use Rattle.ws_history.proofs.Timed.{IsNow, now_nothing, now_other, now_write, now_snap, now_decide, may_write, may_snap, may_decide}

-- how many snapshots of a process with so many writes were taken, if the last one was read at this time
abbrev pub taken_by : Bool → ℕ → ℕ → ℕ → ℕ
taken_by passed read time count = cond (passed && ltb read time) count (count - 1)

both_true : (b c : Bool) → b ≡ true → c ≡ true → b && c ≡ true
both_true true c is is' = is'
both_true false c is is' = absurd cc

pub taken_when : (passed : Bool) (read time count : ℕ) → passed ≡ true → read < time → taken_by passed read time count ≡ count
taken_when passed read time count is less = rw (both_true passed (ltb read time) is (lt-ltb read time less)) refl

pub taken_not : (passed : Bool) (read time count : ℕ) → (passed ≡ true → read < time → ⊥) → taken_by passed read time count ≡ count - 1
taken_not passed read time count never = elim (cases_Bool (passed && ltb read time)) [
  | inl both ↦ let parts = and_parts passed (ltb read time) both in absurd (never parts.0 (ltb-true read time parts.1))
  | inr none ↦ rw none refl
]

-- a time later it is the same, if it wasn't read right then
taken_later : (passed : Bool) (read time count : ℕ) → (passed ≡ true → read ≢ time) → taken_by passed read (time + 1) count ≡ taken_by passed read time count
taken_later true read time count other = elim (cases_lt read time) [
  | inl less ↦ taken_when true read (time + 1) count refl (omega arith) ∙ sym (taken_when true read time count refl less)
  | inr more ↦ let apart = other refl in taken_not true read (time + 1) count (λ is less. omega (arith, more, less, apart)) ∙ sym (taken_not true read time count (λ is less. omega (arith, more, less)))
]
taken_later false read time count other = refl

module _ (spec : RoomSpec) (src : Source) (line : Timeline) (at : ℕ → List Point) (known : IsOfPassed spec src line.fixed) (is : IsTimeline (processes spec) spec.rounds line at) (of : IsSourceOf (processes spec) src line) where
  abbrev pub taken : ℕ → ℕ → ℕ
  taken time p = taken_by (line.fixed p (line.counted time p)) (line.read p (line.counted time p)) time (line.counted time p)

  abbrev pub Passed : ℕ → ℕ → Type 0
  Passed p r = IsFixedIn (processes spec) spec.rounds line.fixed p r

  known_of : (p r : ℕ) → Passed p r → IsKnown spec src line.fixed (record { process = p; round = r })
  known_of p r passed = known.known (record { process = p; round = r }) (record { process = passed.process; positive = passed.first; within = passed.last; is = passed.is })

  -- a snapshot shows its own last write
  own : (p r : ℕ) → Passed p r → line.counted (line.read p r + 1) p ≡ r
  own p r passed = sym (is.shows p r p passed passed.process) ∙ ap (λ (row : List ℕ). get_or row p 0) (sym (of.row p r)) ∙ (known_of p r passed).own

  few : (time p : ℕ) → time ≤ line.length → p < processes spec → line.counted time p ≤ spec.rounds
  few time p early low = let most = known.rounds p low in let last = of.greatest p low in let more = is.grows time line.length p early (omega arith) low in omega (arith, most, last, more)

  -- what has been counted beyond a round, that round's snapshot is behind it
  behind : (time p r : ℕ) → time ≤ line.length → p < processes spec → 1 ≤ r → r < line.counted time p → Passed p r
  behind time p r early low first less =
      let more = is.grows time line.length p early (omega arith) low in
      let last = of.greatest p low in
      record { process = low; first = first; last = let most = few time p early low in omega (arith, most, less); is = known.behind p r low first (omega (arith, more, last, less)) }

  -- and was read before
  read_behind : (time p r : ℕ) → time ≤ line.length → p < processes spec → 1 ≤ r → r < line.counted time p → line.read p r < time
  read_behind time p r early low first less = elim (cases_lt (line.read p r) time) [
    | inl before ↦ before
    | inr after ↦
        let passed = behind time p r early low first less in
        let soon = is.early p r passed in
        let more = is.grows time (line.read p r + 1) p (omega arith) (omega arith) low in
        absurd (let o = own p r passed in omega (arith, more, o, less))
  ]

  -- a snapshot that has been read was counted
  read_counted : (time p r : ℕ) → Passed p r → line.read p r < time → time ≤ line.length → r ≤ line.counted time p
  read_counted time p r passed before early =
      let more = is.grows (line.read p r + 1) time p (omega arith) early passed.process in
      let o = own p r passed in omega (arith, more, o)

  -- ---- how many snapshots were taken

  positive : (p count : ℕ) → line.fixed p count ≡ true → p < processes spec → 1 ≤ count → count ≤ spec.rounds → Passed p count
  positive p count yes_it low first last = record { process = low; first = first; last = last; is = yes_it }

  taken_same : (time p : ℕ) → time < line.length → p < processes spec → line.counted (time + 1) p ≡ line.counted time p → (1 ≤ line.counted time p → Passed p (line.counted time p) → line.read p (line.counted time p) ≢ time) → taken (time + 1) p ≡ taken time p
  taken_same time p early low same unread =
      ap (λ (count : ℕ). taken_by (line.fixed p count) (line.read p count) (time + 1) count) same
      ∙ elim (cases_lt 0 (line.counted time p)) [
        | inl some ↦ taken_later (line.fixed p (line.counted time p)) (line.read p (line.counted time p)) time (line.counted time p) (λ yes_it. unread (omega arith) (positive p (line.counted time p) yes_it low (omega arith) (few time p (omega arith) low)))
        | inr none ↦ none_taken (line.fixed p (line.counted time p)) (line.read p (line.counted time p)) (time + 1) (line.counted time p) (omega arith) ∙ sym (none_taken (line.fixed p (line.counted time p)) (line.read p (line.counted time p)) time (line.counted time p) (omega arith))
      ]
    where
      none_taken : (passed : Bool) (read time count : ℕ) → count ≡ 0 → taken_by passed read time count ≡ 0
      none_taken passed read time count none = elim (cases_Bool (passed && ltb read time)) [ inl both ↦ rw both none | inr not_both ↦ rw not_both (omega arith) ]

  -- ---- what holds before a time

  abbrev pub last_of : ℕ → ℕ → List Event
  last_of time q = cond (line.has_decided time q) (deciding q (line.decided q)) []

  last_same : (time q : ℕ) → line.has_decided (time + 1) q ≡ line.has_decided time q → last_of time q ≡ last_of (time + 1) q
  last_same time q same = ap (λ (d : Bool). cond d (deciding q (line.decided q)) []) (sym same)

  last_none : (time q : ℕ) → line.has_decided time q ≡ false → last_of time q ≡ []
  last_none time q none = ap (λ (d : Bool). cond d (deciding q (line.decided q)) []) none

  told_later : (time q : ℕ) → line.counted (time + 1) q ≡ line.counted time q → taken (time + 1) q ≡ taken time q → line.has_decided (time + 1) q ≡ line.has_decided time q
      → told src q (line.counted time q) (taken time q) (last_of time q) ≡ told src q (line.counted (time + 1) q) (taken (time + 1) q) (last_of (time + 1) q)
  told_later time q e e' e'' = told_same src q (line.counted time q) (taken time q) (line.counted (time + 1) q) (taken (time + 1) q) (last_of time q) (last_of (time + 1) q) (sym e) (sym e') (last_same time q e'')

  pub record Stand (time : ℕ) (events : List Event) : Type 0 where
    pub run : IsRun spec events
    pub each : (q : ℕ) → q < processes spec → IsNow spec src events q (line.counted time q) (taken time q) (line.has_decided time q)
    pub over : (q : ℕ) → q < processes spec → line.has_decided time q ≡ true → (line.counted time q ≡ src.greatest q) × (taken time q ≡ line.counted time q)
    pub mine : (q : ℕ) → q < processes spec → events_of q events ≡ told src q (line.counted time q) (taken time q) (last_of time q)

  stand_nothing : (time : ℕ) (events : List Event) → time < line.length → AreCounted (processes spec) line time → AreDecided (processes spec) line time → IsUnread (processes spec) spec.rounds line time → Stand time events → Stand (time + 1) events
  stand_nothing time events early counted decided unread stand = record {
    run = stand.run;
    each = λ q low.
        subst (λ (w : ℕ). IsNow spec src events q w (taken (time + 1) q) (line.has_decided (time + 1) q)) (sym (counted q low))
        (subst (λ (c : ℕ). IsNow spec src events q (line.counted time q) c (line.has_decided (time + 1) q)) (sym (same q low))
        (subst (λ (d : Bool). IsNow spec src events q (line.counted time q) (taken time q) d) (sym (decided q low)) (stand.each q low)));
    over = λ q low done.
        let before = stand.over q low (sym (decided q low) ∙ done) in
        (counted q low ∙ before.0, same q low ∙ before.1 ∙ sym (counted q low));
    mine = λ q low. stand.mine q low ∙ told_later time q (counted q low) (same q low) (decided q low);
  }
    where
      same : (q : ℕ) → q < processes spec → taken (time + 1) q ≡ taken time q
      same q low = taken_same time q early low (counted q low) (λ some passed. unread q (line.counted time q) passed)

  -- ---- a write

  not_over : (time p r : ℕ) (d : Bool) (events : List Event) → time < line.length → p < processes spec → line.counted time p + 1 ≡ r → line.counted (time + 1) p ≡ r → Stand time events → line.has_decided time p ≡ d → d ≡ false
  not_over time p r true events early low before after stand is' =
      let all = (stand.over p low is').0 in
      let last = of.greatest p low in
      let more = is.grows (time + 1) line.length p (omega arith) (omega arith) low in
      absurd (omega (arith, all, last, more, before, after))
  not_over time p r false events early low before after stand is' = refl

  stand_write : (time p r : ℕ) (events : List Event) → time < line.length → p < processes spec → line.counted time p + 1 ≡ r → line.counted (time + 1) p ≡ r → ((q : ℕ) → q < processes spec → q ≢ p → line.counted (time + 1) q ≡ line.counted time q)
      → AreDecided (processes spec) line time → IsUnread (processes spec) spec.rounds line time → Stand time events → Stand (time + 1) (events ++ Write p (src.written p r) ∷ [])
  stand_write time p r events early low before after others decided unread stand = record {
    run = IsRun-push spec events event stand.run (subst (λ (k : ℕ). Rattle.transcript.specs.Runs.MayWrite spec events p (src.written p k)) before
        (may_write spec src events p w (taken time p) (line.has_decided time p) low level live more
        (λ zero_now. known.begins p low (let m = is.grows (time + 1) line.length p (omega arith) (omega arith) low in let l = of.greatest p low in omega (arith, m, l, before, after)))
        (λ some. (known_of p w (prior some)).goes_on (let m = is.grows (time + 1) line.length p (omega arith) (omega arith) low in let l = of.greatest p low in omega (arith, m, l, before, after))) here));
    each = λ q below. elim (cases_eq p q) [
      | inl same ↦ subst (λ (s : ℕ). IsNow spec src (events ++ event ∷ []) s (line.counted (time + 1) s) (taken (time + 1) s) (line.has_decided (time + 1) s)) same own_now
      | inr apart ↦ other_now q below (λ e. apart (sym e))
    ];
    over = λ q below done. elim (cases_eq p q) [
      | inl same ↦ absurd (let t : line.has_decided time p ≡ true = sym (decided p low) ∙ ap (λ (s : ℕ). line.has_decided (time + 1) s) same ∙ done in let f = live in let wrong : true ≡ false = sym t ∙ f in cc)
      | inr apart ↦
          let gone = stand.over q below (sym (decided q below) ∙ done) in
          let c = others q below (λ e. apart (sym e)) in
          (c ∙ gone.0, other_same q below (λ e. apart (sym e)) ∙ gone.1 ∙ sym c)
    ];
    mine = λ q below. elim (cases_eq p q) [
      | inl same ↦ subst (λ (s : ℕ). events_of s (events ++ event ∷ []) ≡ told src s (line.counted (time + 1) s) (taken (time + 1) s) (last_of (time + 1) s)) same mine_now
      | inr apart ↦ other_push q events event apart ∙ stand.mine q below ∙ told_later time q (others q below (λ e. apart (sym e))) (other_same q below (λ e. apart (sym e))) (decided q below)
    ];
  }
    where
      w : ℕ
      w = line.counted time p

      event : Event
      event = Write p (src.written p r)

      here : IsNow spec src events p (line.counted time p) (taken time p) (line.has_decided time p)
      here = stand.each p low

      live : line.has_decided time p ≡ false
      live = not_over time p r (line.has_decided time p) events early low before after stand refl

      prior : 1 ≤ line.counted time p → Passed p (line.counted time p)
      prior some = behind (time + 1) p (line.counted time p) (omega arith) low some (omega (arith, before, after))

      more : line.counted time p < spec.rounds
      more = let m = few (time + 1) p (omega arith) low in omega (arith, m, before, after)

      -- its snapshots are as many as its writes
      level_by : (count : ℕ) → line.counted time p ≡ count → taken time p ≡ line.counted time p
      level_by zero none = zero_of (line.fixed p (line.counted time p)) (line.read p (line.counted time p)) time (line.counted time p) none
        where
          zero_of : (passed : Bool) (read time count : ℕ) → count ≡ 0 → taken_by passed read time count ≡ count
          zero_of passed read time count none = elim (cases_Bool (passed && ltb read time)) [ inl both ↦ rw both refl | inr not_both ↦ rw not_both (omega (arith, none)) ]
      level_by (suc count) some =
          let passed = prior (omega (arith, some)) in
          let soon = read_behind (time + 1) p (line.counted time p) (omega arith) low passed.first (omega (arith, before, after)) in
          let apart = unread p (line.counted time p) passed in
          taken_when (line.fixed p (line.counted time p)) (line.read p (line.counted time p)) time (line.counted time p) passed.is (omega (arith, soon, apart))

      level : taken time p ≡ line.counted time p
      level = level_by (line.counted time p) refl

      -- the new one is behind no snapshot yet
      level_after : taken (time + 1) p ≡ line.counted time p
      level_after =
          ap (λ (count : ℕ). taken_by (line.fixed p count) (line.read p count) (time + 1) count) after
          ∙ taken_not (line.fixed p r) (line.read p r) (time + 1) r (λ yes_it soon.
          let passed = positive p r yes_it low (omega (arith, before)) (let m = few (time + 1) p (omega arith) low in omega (arith, m, after)) in
          let apart = unread p r passed in
          let most = read_counted time p r passed (omega (arith, soon, apart)) (omega arith) in
          omega (arith, most, before))
          ∙ omega (arith, before)

      own_now : IsNow spec src (events ++ event ∷ []) p (line.counted (time + 1) p) (taken (time + 1) p) (line.has_decided (time + 1) p)
      own_now =
          subst (λ (w' : ℕ). IsNow spec src (events ++ event ∷ []) p w' (taken (time + 1) p) (line.has_decided (time + 1) p)) (before ∙ sym after)
          (subst (λ (c : ℕ). IsNow spec src (events ++ event ∷ []) p (w + 1) c (line.has_decided (time + 1) p)) (level ∙ sym level_after)
          (subst (λ (d : Bool). IsNow spec src (events ++ event ∷ []) p (w + 1) (taken time p) d) (sym (decided p low))
          (subst (λ (k : ℕ). IsNow spec src (events ++ Write p (src.written p k) ∷ []) p (w + 1) (taken time p) (line.has_decided time p)) before
          (now_write spec src events p w (taken time p) (line.has_decided time p) level here))))

      mine_now : events_of p (events ++ event ∷ []) ≡ told src p (line.counted (time + 1) p) (taken (time + 1) p) (last_of (time + 1) p)
      mine_now =
          own_push p events event refl
          ∙ ap (λ (l : List Event). l ++ event ∷ []) (stand.mine p low ∙ ap (λ (l : List Event). told src p w (taken time p) l) (last_none time p live))
          ∙ ap (λ (k : ℕ). told src p w (taken time p) [] ++ Write p (src.written p k) ∷ []) (sym before)
          ∙ told_write src p w (taken time p) level
          ∙ told_same src p (w + 1) (taken time p) (line.counted (time + 1) p) (taken (time + 1) p) [] (last_of (time + 1) p) (before ∙ sym after) (level ∙ sym level_after) (sym (last_none (time + 1) p (decided p low ∙ live)))

      other_same : (q : ℕ) → q < processes spec → q ≢ p → taken (time + 1) q ≡ taken time q
      other_same q below apart = taken_same time q early below (others q below apart) (λ some passed. unread q (line.counted time q) passed)

      other_now : (q : ℕ) → q < processes spec → q ≢ p → IsNow spec src (events ++ event ∷ []) q (line.counted (time + 1) q) (taken (time + 1) q) (line.has_decided (time + 1) q)
      other_now q below apart =
          subst (λ (w' : ℕ). IsNow spec src (events ++ event ∷ []) q w' (taken (time + 1) q) (line.has_decided (time + 1) q)) (sym (others q below apart))
          (subst (λ (c : ℕ). IsNow spec src (events ++ event ∷ []) q (line.counted time q) c (line.has_decided (time + 1) q)) (sym (other_same q below apart))
          (subst (λ (d : Bool). IsNow spec src (events ++ event ∷ []) q (line.counted time q) (taken time q) d) (sym (decided q below))
          (now_other spec src events event q (line.counted time q) (taken time q) (line.has_decided time q) (λ e. apart (sym e)) (stand.each q below))))

  -- ---- a snapshot

  stand_snap : (time p r : ℕ) (events : List Event) → time < line.length → Passed p r → line.read p r ≡ time → ((q s : ℕ) → Passed q s → line.read q s ≡ time → (q ≡ p) × (s ≡ r))
      → AreCounted (processes spec) line time → AreDecided (processes spec) line time → Stand time events → Stand (time + 1) (events ++ Snap p (record { items = shown_row src (record { process = p; round = r }) }) ∷ [])
  stand_snap time p r events early passed read alone counted decided stand = record {
    run = IsRun-push spec events event stand.run
        (may_snap spec src events p (line.counted time) (taken time) (line.has_decided time) (shown_row src s) passed.process ahead wide
        (λ q below. get_or-map-range_with_len (λ q. shown src q (entry_of src s q)) 0 (length (row_of src s)) q q None (let width = (known_of p r passed).width in omega arith) (omega arith) ∙ ap (shown src q) (entry q below))
        stand.each);
    each = λ q below. elim (cases_eq p q) [
      | inl same ↦ subst (λ (o : ℕ). IsNow spec src (events ++ event ∷ []) o (line.counted (time + 1) o) (taken (time + 1) o) (line.has_decided (time + 1) o)) same own_now
      | inr apart ↦ other_now q below (λ e. apart (sym e))
    ];
    over = λ q below done. elim (cases_eq p q) [
      | inl same ↦ absurd (
          let gone = (stand.over p passed.process (sym (decided p passed.process) ∙ ap (λ (o : ℕ). line.has_decided (time + 1) o) same ∙ done)).1 in
          let positive_round = passed.first in
          omega (arith, gone, ahead))
      | inr apart ↦
          let gone = stand.over q below (sym (decided q below) ∙ done) in
          (counted q below ∙ gone.0, other_same q below (λ e. apart (sym e)) ∙ gone.1 ∙ sym (counted q below))
    ];
    mine = λ q below. elim (cases_eq p q) [
      | inl same ↦ subst (λ (o : ℕ). events_of o (events ++ event ∷ []) ≡ told src o (line.counted (time + 1) o) (taken (time + 1) o) (last_of (time + 1) o)) same mine_now
      | inr apart ↦ other_push q events event apart ∙ stand.mine q below ∙ told_later time q (counted q below) (other_same q below (λ e. apart (sym e))) (decided q below)
    ];
  }
    where
      s : Snapshot
      s = record { process = p; round = r }

      event : Event
      event = Snap p (record { items = shown_row src (record { process = p; round = r }) })

      here : IsNow spec src events p (line.counted time p) (taken time p) (line.has_decided time p)
      here = stand.each p passed.process

      round : line.counted time p ≡ r
      round = sym (counted p passed.process) ∙ ap (λ (t : ℕ). line.counted (t + 1) p) (sym read) ∙ own p r passed

      taken_is : taken time p ≡ r - 1
      taken_is = ap (λ (count : ℕ). taken_by (line.fixed p count) (line.read p count) time count) round ∙ taken_not (line.fixed p r) (line.read p r) time r (λ yes_it soon. omega (arith, soon, read))

      ahead : line.counted time p ≡ taken time p + 1
      ahead = let first = passed.first in omega (arith, round, taken_is, first)

      taken_after : taken (time + 1) p ≡ r
      taken_after = ap (λ (count : ℕ). taken_by (line.fixed p count) (line.read p count) (time + 1) count) (counted p passed.process ∙ round) ∙ taken_when (line.fixed p r) (line.read p r) (time + 1) r passed.is (omega (arith, read))

      wide : length (shown_row src s) ≡ processes spec
      wide = length-map-range_with_len (λ q. shown src q (entry_of src s q)) 0 (length (row_of src s)) ∙ (known_of p r passed).width

      entry : (q : ℕ) → q < processes spec → entry_of src s q ≡ line.counted time q
      entry q below = ap (λ (row : List ℕ). get_or row q 0) (of.row p r) ∙ is.shows p r q passed below ∙ ap (λ (t : ℕ). line.counted (t + 1) q) read ∙ counted q below

      own_now : IsNow spec src (events ++ event ∷ []) p (line.counted (time + 1) p) (taken (time + 1) p) (line.has_decided (time + 1) p)
      own_now =
          subst (λ (w : ℕ). IsNow spec src (events ++ event ∷ []) p w (taken (time + 1) p) (line.has_decided (time + 1) p)) (sym (counted p passed.process))
          (subst (λ (c : ℕ). IsNow spec src (events ++ event ∷ []) p (line.counted time p) c (line.has_decided (time + 1) p)) (round ∙ sym taken_after)
          (subst (λ (d : Bool). IsNow spec src (events ++ event ∷ []) p (line.counted time p) (line.counted time p) d) (sym (decided p passed.process))
          (subst (λ (k : ℕ). IsNow spec src (events ++ Snap p (record { items = shown_row src (record { process = p; round = k }) }) ∷ []) p (line.counted time p) (line.counted time p) (line.has_decided time p)) round
          (now_snap spec src events p (line.counted time p) (taken time p) (line.has_decided time p) ahead here))))

      live_by : (d : Bool) → line.has_decided time p ≡ d → d ≡ false
      live_by true is' = absurd (let gone = (stand.over p passed.process is').1 in omega (arith, gone, ahead))
      live_by false is' = refl

      live : line.has_decided time p ≡ false
      live = live_by (line.has_decided time p) refl

      mine_now : events_of p (events ++ event ∷ []) ≡ told src p (line.counted (time + 1) p) (taken (time + 1) p) (last_of (time + 1) p)
      mine_now =
          own_push p events event refl
          ∙ ap (λ (l : List Event). l ++ event ∷ []) (stand.mine p passed.process ∙ ap (λ (l : List Event). told src p (line.counted time p) (taken time p) l) (last_none time p live))
          ∙ ap (λ (k : ℕ). told src p (line.counted time p) (taken time p) [] ++ Snap p (record { items = shown_row src (record { process = p; round = k }) }) ∷ []) (sym round)
          ∙ told_snap src p (line.counted time p) (taken time p) ahead
          ∙ told_same src p (line.counted time p) (line.counted time p) (line.counted (time + 1) p) (taken (time + 1) p) [] (last_of (time + 1) p) (sym (counted p passed.process)) (round ∙ sym taken_after) (sym (last_none (time + 1) p (decided p passed.process ∙ live)))

      other_same : (q : ℕ) → q < processes spec → q ≢ p → taken (time + 1) q ≡ taken time q
      other_same q below apart = taken_same time q early below (counted q below) (λ some passed' there. apart (alone q (line.counted time q) passed' there).0)

      other_now : (q : ℕ) → q < processes spec → q ≢ p → IsNow spec src (events ++ event ∷ []) q (line.counted (time + 1) q) (taken (time + 1) q) (line.has_decided (time + 1) q)
      other_now q below apart =
          subst (λ (w' : ℕ). IsNow spec src (events ++ event ∷ []) q w' (taken (time + 1) q) (line.has_decided (time + 1) q)) (sym (counted q below))
          (subst (λ (c : ℕ). IsNow spec src (events ++ event ∷ []) q (line.counted time q) c (line.has_decided (time + 1) q)) (sym (other_same q below apart))
          (subst (λ (d : Bool). IsNow spec src (events ++ event ∷ []) q (line.counted time q) (taken time q) d) (sym (decided q below))
          (now_other spec src events event q (line.counted time q) (taken time q) (line.has_decided time q) (λ e. apart (sym e)) (stand.each q below))))

  -- ---- a decision

  stand_decide : (time p v : ℕ) (events : List Event) → time < line.length → p < processes spec → line.has_decided time p ≡ false → line.has_decided (time + 1) p ≡ true → ((q : ℕ) → q < processes spec → q ≢ p → line.has_decided (time + 1) q ≡ line.has_decided time q)
      → AreCounted (processes spec) line time → IsUnread (processes spec) spec.rounds line time → line.decided p ≡ Some v → line.counted time p ≡ line.counted line.length p
      → Passed p (line.counted time p) → line.read p (line.counted time p) < time → Stand time events → Stand (time + 1) (events ++ Decide p v ∷ [])
  stand_decide time p v events early low live done others counted unread decision last passed read stand = record {
    run = IsRun-push spec events event stand.run (may_decide spec src events p w v (line.has_decided time p) low passed.first live asks level_now);
    each = λ q below. elim (cases_eq p q) [
      | inl same ↦ subst (λ (o : ℕ). IsNow spec src (events ++ event ∷ []) o (line.counted (time + 1) o) (taken (time + 1) o) (line.has_decided (time + 1) o)) same own_now
      | inr apart ↦ other_now q below (λ e. apart (sym e))
    ];
    over = λ q below gone. elim (cases_eq p q) [
      | inl same ↦ subst (λ (o : ℕ). (line.counted (time + 1) o ≡ src.greatest o) × (taken (time + 1) o ≡ line.counted (time + 1) o)) same
          (counted p low ∙ last ∙ sym (of.greatest p low), taken_now p low ∙ level ∙ sym (counted p low))
      | inr apart ↦
          let before = stand.over q below (sym (others q below (λ e. apart (sym e))) ∙ gone) in
          (counted q below ∙ before.0, taken_now q below ∙ before.1 ∙ sym (counted q below))
    ];
    mine = λ q below. elim (cases_eq p q) [
      | inl same ↦ subst (λ (o : ℕ). events_of o (events ++ event ∷ []) ≡ told src o (line.counted (time + 1) o) (taken (time + 1) o) (last_of (time + 1) o)) same mine_now
      | inr apart ↦ other_push q events event apart ∙ stand.mine q below ∙ told_later time q (counted q below) (taken_now q below) (others q below (λ e. apart (sym e)))
    ];
  }
    where
      w : ℕ
      w = line.counted time p

      event : Event
      event = Decide p v

      level : taken time p ≡ line.counted time p
      level = taken_when (line.fixed p (line.counted time p)) (line.read p (line.counted time p)) time (line.counted time p) passed.is read

      level_now : IsNow spec src events p (line.counted time p) (line.counted time p) (line.has_decided time p)
      level_now = subst (λ (c : ℕ). IsNow spec src events p (line.counted time p) c (line.has_decided time p)) level (stand.each p low)

      asks : asks_after spec src (record { process = p; round = line.counted time p }) ≡ actions.Decide v
      asks = ((known_of p (line.counted time p) passed).decides v (ap (src.decision p) last ∙ of.decision p v low decision)).0

      taken_now : (q : ℕ) → q < processes spec → taken (time + 1) q ≡ taken time q
      taken_now q below = taken_same time q early below (counted q below) (λ some passed'. unread q (line.counted time q) passed')

      mine_now : events_of p (events ++ event ∷ []) ≡ told src p (line.counted (time + 1) p) (taken (time + 1) p) (last_of (time + 1) p)
      mine_now =
          own_push p events event refl
          ∙ ap (λ (l : List Event). l ++ event ∷ []) (stand.mine p low ∙ ap (λ (c : ℕ). told src p w c (last_of time p)) level ∙ ap (λ (l : List Event). told src p w w l) (last_none time p live))
          ∙ told_last src p w (event ∷ [])
          ∙ told_same src p w w (line.counted (time + 1) p) (taken (time + 1) p) (event ∷ []) (last_of (time + 1) p) (sym (counted p low)) (sym (taken_now p low ∙ level))
          (sym (ap (λ (d : Bool). cond d (deciding p (line.decided p)) []) done ∙ ap (deciding p) decision))

      own_now : IsNow spec src (events ++ event ∷ []) p (line.counted (time + 1) p) (taken (time + 1) p) (line.has_decided (time + 1) p)
      own_now =
          subst (λ (w' : ℕ). IsNow spec src (events ++ event ∷ []) p w' (taken (time + 1) p) (line.has_decided (time + 1) p)) (sym (counted p low))
          (subst (λ (c : ℕ). IsNow spec src (events ++ event ∷ []) p (line.counted time p) c (line.has_decided (time + 1) p)) (sym (taken_now p low ∙ level))
          (subst (λ (d : Bool). IsNow spec src (events ++ event ∷ []) p (line.counted time p) (line.counted time p) d) (sym done)
          (now_decide spec src events p (line.counted time p) v (line.has_decided time p) level_now)))

      other_now : (q : ℕ) → q < processes spec → q ≢ p → IsNow spec src (events ++ event ∷ []) q (line.counted (time + 1) q) (taken (time + 1) q) (line.has_decided (time + 1) q)
      other_now q below apart =
          subst (λ (w' : ℕ). IsNow spec src (events ++ event ∷ []) q w' (taken (time + 1) q) (line.has_decided (time + 1) q)) (sym (counted q below))
          (subst (λ (c : ℕ). IsNow spec src (events ++ event ∷ []) q (line.counted time q) c (line.has_decided (time + 1) q)) (sym (taken_now q below))
          (subst (λ (d : Bool). IsNow spec src (events ++ event ∷ []) q (line.counted time q) (taken time q) d) (sym (others q below apart))
          (now_other spec src events event q (line.counted time q) (taken time q) (line.has_decided time q) (λ e. apart (sym e)) (stand.each q below))))

  -- ---- the theorem

  stand_step : (time : ℕ) (events : List Event) (points : List Point) → time < line.length → Moves (processes spec) spec.rounds line time points → Stand time events → Stand (time + 1) (events ++ map (event_of src) points)
  stand_step time events points early (nothing counted decided unread) stand = rw append-nil (stand_nothing time events early counted decided unread stand)
  stand_step time events points early (writes p r low before after others decided unread) stand = stand_write time p r events early low before after others decided unread stand
  stand_step time events points early (snaps p r passed read alone counted decided) stand = stand_snap time p r events early passed read alone counted decided stand
  stand_step time events points early (decides p v low live done others counted unread decision last passed read) stand = stand_decide time p v events early low live done others counted unread decision last passed read stand

  stand_opening : Stand 0 []
  stand_opening = record {
    run = IsRun-nil spec;
    each = λ q low.
        subst (λ (w : ℕ). IsNow spec src [] q w (taken 0 q) (line.has_decided 0 q)) (sym (is.none q))
        (subst (λ (c : ℕ). IsNow spec src [] q 0 c (line.has_decided 0 q)) (sym (none_taken q))
        (subst (λ (d : Bool). IsNow spec src [] q 0 0 d) (sym (is.undecided q)) (now_nothing spec src q)));
    over = λ q low done. absurd (let undecided = is.undecided q in let wrong : true ≡ false = sym done ∙ undecided in cc);
    mine = λ q low. told_same src q 0 0 (line.counted 0 q) (taken 0 q) [] (last_of 0 q) (sym (is.none q)) (sym (none_taken q)) (sym (last_none 0 q (is.undecided q)));
  }
    where
      none_taken : (q : ℕ) → taken 0 q ≡ 0
      none_taken q = taken_not (line.fixed q (line.counted 0 q)) (line.read q (line.counted 0 q)) 0 (line.counted 0 q) (λ yes_it less. omega (arith, less)) ∙ (let none = is.none q in omega (arith, none))

  pub stands : (time : ℕ) → time ≤ line.length → Stand time (events_before (λ t. map (event_of src) (at t)) time)
  stands zero early = stand_opening
  stands (suc time) early =
      let next : time + 1 ≡ suc time = omega arith in
      subst (λ (t : ℕ). Stand t (events_before (λ t. map (event_of src) (at t)) time ++ map (event_of src) (at time))) next
      (stand_step time (events_before (λ t. map (event_of src) (at t)) time) (at time) (omega arith) (is.moves time (omega arith)) (stands time (omega arith)))

  pub timeline_is_run : IsRun spec (events_before (λ t. map (event_of src) (at t)) line.length)
  timeline_is_run = (stands line.length (omega arith)).run
