-- What a history has of one process, and how one more event changes it.
use Rattle.std.proofs.Common.{◌≡◌, ◌≢◌, ℕ, ◌+◌, ◌<◌, ◌≤◌, Bool, true, false, cond, eqb, List, [], ◌∷◌, ◌++◌, length, Option, Some, None, refl, sym, ap, ◌∙◌, arith}
use Rattle.std.specs.List.{count_by}
use Rattle.std.specs.Prelude.{slice_index, slice_index_or}
use Rattle.std.proofs.lemmas.Bool.{ne_eqb}
use Rattle.std.proofs.lemmas.List.Sums.{sum_by_push}
use Rattle.arrayvec.specs.ArrayVec.{ArrayVec}
use Rattle.protocol_lang.specs.Meaning.{first_value, next_action}
use Rattle.protocol_lang.specs.declared.meaning.Action.TheVariants as actions
use Rattle.room_spec.specs.Rooms.{RoomSpec, processes}
use Rattle.transcript.specs.declared.event.Event.{Event}
use Rattle.transcript.specs.declared.event.Event.TheVariants.{Write, Snap, Decide}
use Rattle.transcript.specs.Runs.{process_of, event_by, written_by, seen_by, is_write_by, is_snap_by, latest, last_write, action_due, IsNothingOrSnap, IsWrite, MayWrite, MaySnap, MayDecide}
use Rattle.ws_history.specs.Histories.{Source, shown, shown_row}
use Rattle.transcript.proofs.CallerLemmas.{latest-push, same, quiet}

-- After these events process q has written w times and has taken c snapshots. It may have decided only where there
-- are no more writes of it.
pub record IsAt (spec : RoomSpec) (src : Source) (events : List Event) (q w c : ℕ) : Type 0 where
  pub writes : count_by (is_write_by q) events ≡ w
  pub snaps : count_by (is_snap_by q) events ≡ c
  pub last : last_write events q ≡ shown src q w
  pub idle : c ≡ w → w < src.greatest q → IsNothingOrSnap (latest (event_by q) events)
  pub due : c ≡ w → w < src.greatest q → action_due spec events q ≡ actions.Write (src.written q (w + 1))
  pub wrote : w ≡ c + 1 → IsWrite (latest (event_by q) events)
  pub seen : 1 ≤ c → latest (seen_by q) events ≡ Some (shown_row src (record { process = q; round = c }))

pub at_nothing : (spec : RoomSpec) (src : Source) (q : ℕ) → (1 ≤ src.greatest q → src.written q 1 ≡ first_value spec.protocol (slice_index spec.inputs q) q (processes spec)) → IsAt spec src [] q 0 0
at_nothing spec src q begins = record {
  writes = refl;
  snaps = refl;
  last = refl;
  idle = λ e more. tt;
  due = λ e more. ap (λ v. actions.Write v) (sym (begins (omega arith)));
  wrote = λ e. absurd (omega arith);
  seen = λ some. absurd (omega arith);
}

-- ---- one more event

count_more : (test : Event → Bool) (events : List Event) (event : Event) → test event ≡ true → count_by test (events ++ event ∷ []) ≡ count_by test events + 1
count_more test events event passes = sum_by_push (λ e. cond (test e) 1 0) events event ∙ rw passes refl

count_same : (test : Event → Bool) (events : List Event) (event : Event) → test event ≡ false → count_by test (events ++ event ∷ []) ≡ count_by test events
count_same test events event fails = sum_by_push (λ e. cond (test e) 1 0) events event ∙ rw fails (omega arith)

due_other : (spec : RoomSpec) (events : List Event) (event : Event) (q : ℕ) → seen_by q event ≡ None → is_snap_by q event ≡ false → action_due spec (events ++ event ∷ []) q ≡ action_due spec events q
due_other spec events event q unseen no_snap = rw (latest-push (seen_by q) events event, unseen, count_same (is_snap_by q) events event no_snap) refl

pub at_other : (spec : RoomSpec) (src : Source) (events : List Event) (event : Event) (q w c : ℕ) → process_of event ≢ q → IsAt spec src events q w c → IsAt spec src (events ++ event ∷ []) q w c
at_other spec src events event q w c ne at =
    let calm = quiet q event ne in
    record {
      writes = rw (count_same (is_write_by q) events event calm.write) at.writes;
      snaps = rw (count_same (is_snap_by q) events event calm.snap) at.snaps;
      last = rw (latest-push (written_by q) events event, calm.written) at.last;
      idle = λ e more. rw (latest-push (event_by q) events event, calm.event) (at.idle e more);
      due = λ e more. due_other spec events event q calm.seen calm.snap ∙ at.due e more;
      wrote = λ e. rw (latest-push (event_by q) events event, calm.event) (at.wrote e);
      seen = λ some. rw (latest-push (seen_by q) events event, calm.seen) (at.seen some);
    }

if_same : {A : Type 0} (p : ℕ) (x : A) → cond (eqb p p) (Some x) None ≡ Some x
if_same p x = rw (same p) refl

pub shown_more : (src : Source) (p w : ℕ) → shown src p (w + 1) ≡ Some (src.written p (w + 1))
shown_more src p w = rw (ne_eqb (w + 1) 0 (omega arith)) refl

pub at_write : (spec : RoomSpec) (src : Source) (events : List Event) (p w c : ℕ) → c ≡ w → IsAt spec src events p w c → IsAt spec src (events ++ Write p (src.written p (w + 1)) ∷ []) p (w + 1) c
at_write spec src events p w c level at =
    let event : Event = Write p (src.written p (w + 1)) in
    record {
      writes = rw (count_more (is_write_by p) events event (same p)) (ap (λ (k : ℕ). k + 1) at.writes);
      snaps = rw (count_same (is_snap_by p) events event refl) at.snaps;
      last = rw (latest-push (written_by p) events event, if_same p (src.written p (w + 1)), shown_more src p w) refl;
      idle = λ e more. absurd (omega arith);
      due = λ e more. absurd (omega arith);
      wrote = λ e. rw (latest-push (event_by p) events event, if_same p event) tt;
      seen = λ some. rw (latest-push (seen_by p) events event) (at.seen some);
    }

pub at_snap : (spec : RoomSpec) (src : Source) (events : List Event) (p w c : ℕ) (row : ArrayVec (Option ℕ)) → w ≡ c + 1
    → (w < src.greatest p → next_action spec.protocol (slice_index spec.inputs p) p w row.items ≡ actions.Write (src.written p (w + 1)))
    → row.items ≡ shown_row src (record { process = p; round = w }) → IsAt spec src events p w c → IsAt spec src (events ++ Snap p row ∷ []) p w w
at_snap spec src events p w c row ahead goes_on shows at =
    let event : Event = Snap p row in
    let round : count_by (is_snap_by p) (events ++ Snap p row ∷ []) ≡ w = count_more (is_snap_by p) events event (same p) ∙ omega (arith, at.snaps) in
    record {
      writes = rw (count_same (is_write_by p) events event refl) at.writes;
      snaps = round;
      last = rw (latest-push (written_by p) events event) at.last;
      idle = λ e more. rw (latest-push (event_by p) events event, if_same p event) tt;
      due = λ e more. rw (latest-push (seen_by p) events event, if_same p row.items, round) (goes_on more);
      wrote = λ e. absurd (omega arith);
      seen = λ some. rw (latest-push (seen_by p) events event, if_same p row.items) (ap Some shows);
    }

pub at_decide : (spec : RoomSpec) (src : Source) (events : List Event) (p w v : ℕ) → src.greatest p ≡ w → IsAt spec src events p w w → IsAt spec src (events ++ Decide p v ∷ []) p w w
at_decide spec src events p w v over at =
    let event : Event = Decide p v in
    record {
      writes = rw (count_same (is_write_by p) events event refl) at.writes;
      snaps = rw (count_same (is_snap_by p) events event refl) at.snaps;
      last = rw (latest-push (written_by p) events event) at.last;
      idle = λ e more. absurd (omega arith);
      due = λ e more. absurd (omega arith);
      wrote = λ e. absurd (omega arith);
      seen = λ some. rw (latest-push (seen_by p) events event) (at.seen some);
    }

-- ---- which event may come

pub may_write : (spec : RoomSpec) (src : Source) (events : List Event) (p w c : ℕ) → p < processes spec → c ≡ w → w < src.greatest p → src.greatest p ≤ spec.rounds → IsAt spec src events p w c
    → MayWrite spec events p (src.written p (w + 1))
may_write spec src events p w c low level more few at = record { process = low; in_turn = at.idle level more; value = at.due level more; rounds = omega (arith, at.writes) }

pub may_snap : (spec : RoomSpec) (src : Source) (events : List Event) (p : ℕ) (w c : ℕ → ℕ) (row : List (Option ℕ)) → p < processes spec → w p ≡ c p + 1 → length row ≡ processes spec
    → ((q : ℕ) → q < processes spec → slice_index_or row q None ≡ shown src q (w q)) → ((q : ℕ) → q < processes spec → IsAt spec src events q (w q) (c q))
    → MaySnap spec events p row
may_snap spec src events p w c row low ahead width entries at = record {
  process = low;
  width = width;
  in_turn = (at p low).wrote ahead;
  entries = λ q below. entries q below ∙ sym (at q below).last;
}

-- right after its snapshot
pub may_decide : (spec : RoomSpec) (events : List Event) (p v : ℕ) (row : ArrayVec (Option ℕ)) → p < processes spec
    → next_action spec.protocol (slice_index spec.inputs p) p (count_by (is_snap_by p) (events ++ Snap p row ∷ [])) row.items ≡ actions.Decide v
    → MayDecide spec (events ++ Snap p row ∷ []) p v
may_decide spec events p v row low asked = record {
  process = low;
  in_turn = rw (latest-push (event_by p) events (Snap p row), if_same p (Snap p row)) tt;
  value = rw (latest-push (seen_by p) events (Snap p row), if_same p row.items) asked;
}
