-- What a checker keeps of the processes stays true with one more event.
use Rattle.std.proofs.Common.{◌≡◌, ◌≢◌, ℕ, ◌+◌, ◌<◌, List, [], ◌∷◌, ◌++◌, length, get_or, set, Option, Some, None, refl, sym, ap, ◌∙◌, subst, arith, inl, inr}
use Rattle.std.specs.List.{count_by}
use Rattle.std.proofs.lemmas.Bool.{cases_eq}
use Rattle.std.proofs.lemmas.List.{length-set, get_or-set_same, get_or-set_other, get_or-map, length-map}
use Rattle.arrayvec.specs.ArrayVec.{ArrayVec}
use Rattle.protocol_lang.specs.Meaning.{next_action}
use Rattle.protocol_lang.specs.declared.meaning.Action.{Action}
use Rattle.protocol_lang.specs.declared.meaning.Action.TheVariants as actions
use Rattle.room_spec.specs.Rooms.{RoomSpec}
use Rattle.transcript.specs.declared.event.Event.{Event}
use Rattle.transcript.specs.declared.event.Event.TheVariants as events
use Rattle.transcript.specs.Runs.{process_of, event_by, written_by, seen_by, is_write_by, is_snap_by, latest, action_due, IsNothingOrSnap, IsSnap, IsWrite, MayWrite, MaySnap, MayDecide}
use Rattle.history_checker.specs.declared.process.Turn.TheVariants.{Write, Snap, Decide, Over}
use Rattle.history_checker.specs.declared.process.Process.{Process}
use Rattle.history_checker.specs.Processes.{turn_for, turn_after, owed, lasts, IsAt, Tracks}
use Rattle.transcript.proofs.CallerLemmas.{count_more, count_same, due_other, if_same, latest-push, same, quiet, none_seen}

-- ---- another process

pub at_other : (spec : RoomSpec) (history : List Event) (event : Event) (q : ℕ) (process : Process) → process_of event ≢ q → IsAt spec history q process → IsAt spec (history ++ event ∷ []) q process
at_other spec history event q process ne at =
    let calm = quiet q event ne in
    record {
      input = at.input;
      turn = rw (due_other spec history event q ne, latest-push (event_by q) history event, calm.event) at.turn;
      last = rw (latest-push (written_by q) history event, calm.written) at.last;
      writes = rw (count_same (is_write_by q) history event calm.write) at.writes;
      snaps = rw (count_same (is_snap_by q) history event calm.snap) at.snaps;
    }

-- ---- the process itself

pub at_write : (spec : RoomSpec) (history : List Event) (p v : ℕ) (process : Process) → process.turn ≡ Write v → IsAt spec history p process
    → IsAt spec (history ++ events.Write p v ∷ []) p (record { input = process.input; turn = Snap; last = Some v; writes = process.writes + 1 })
at_write spec history p v process turn at =
    let no_debt : owed process.turn ≡ 0 = ap owed turn in
    record {
      input = at.input;
      turn = rw (latest-push (event_by p) history (events.Write p v), if_same p (events.Write p v)) refl;
      last = rw (latest-push (written_by p) history (events.Write p v), if_same p v) refl;
      writes = rw (count_more (is_write_by p) history (events.Write p v) (same p)) (ap (λ n. n + 1) at.writes);
      snaps = rw (count_same (is_snap_by p) history (events.Write p v) refl) (omega (arith, at.snaps, no_debt));
    }

owed_for : (action : Action) → owed (turn_for action) ≡ 0
owed_for (actions.Write v) = refl
owed_for (actions.Decide v) = refl

pub at_decide : (spec : RoomSpec) (history : List Event) (p v : ℕ) (process : Process) → process.turn ≡ Decide v → IsAt spec history p process
    → IsAt spec (history ++ events.Decide p v ∷ []) p (record { input = process.input; turn = Over; last = process.last; writes = process.writes })
at_decide spec history p v process turn at =
    let no_debt : owed process.turn ≡ 0 = ap owed turn in
    record {
      input = at.input;
      turn = rw (latest-push (event_by p) history (events.Decide p v), if_same p (events.Decide p v)) refl;
      last = rw (latest-push (written_by p) history (events.Decide p v)) at.last;
      writes = rw (count_same (is_write_by p) history (events.Decide p v) refl) at.writes;
      snaps = rw (count_same (is_snap_by p) history (events.Decide p v) refl) (omega (arith, at.snaps, no_debt));
    }

pub at_snap : (spec : RoomSpec) (history : List Event) (p : ℕ) (row : ArrayVec (Option ℕ)) (process : Process) → process.turn ≡ Snap → IsAt spec history p process
    → IsAt spec (history ++ events.Snap p row ∷ []) p (record { input = process.input; turn = turn_for (next_action spec.protocol process.input p process.writes row.items); last = process.last; writes = process.writes })
at_snap spec history p row process turn at =
    let debt : owed process.turn ≡ 1 = ap owed turn in
    let seen : count_by (is_snap_by p) (history ++ events.Snap p row ∷ []) ≡ count_by (is_snap_by p) history + 1 = count_more (is_snap_by p) history (events.Snap p row) (same p) in
    let round : count_by (is_snap_by p) (history ++ events.Snap p row ∷ []) ≡ process.writes = omega (arith, seen, at.snaps, debt) in
    record {
      input = at.input;
      turn = rw (latest-push (event_by p) history (events.Snap p row), if_same p (events.Snap p row), latest-push (seen_by p) history (events.Snap p row), if_same p row.items, round, ← at.input) refl;
      last = rw (latest-push (written_by p) history (events.Snap p row)) at.last;
      writes = rw (count_same (is_write_by p) history (events.Snap p row) refl) at.writes;
      snaps = omega (arith, round, owed_for (next_action spec.protocol process.input p process.writes row.items));
    }

-- ---- all processes

pub tracks_after : (spec : RoomSpec) (all : List Process) (history : List Event) (event : Event) (new : Process) → process_of event < length all
    → IsAt spec (history ++ event ∷ []) (process_of event) new → Tracks spec all history → Tracks spec (set all (process_of event) new) (history ++ event ∷ [])
tracks_after spec all history event new within own tracks = record {
  count = length-set all (process_of event) new ∙ tracks.count;
  each = λ q d below. elim (cases_eq (process_of event) q) [
    | inl equal ↦ subst (λ (r : ℕ). IsAt spec (history ++ event ∷ []) r (get_or (set all (process_of event) new) r d)) equal (rw (get_or-set_same all (process_of event) new d within) own)
    | inr other ↦
        let apart : q ≢ process_of event = λ e. other (sym e) in
        rw (get_or-set_other all (process_of event) q new d apart) (at_other spec history event q (get_or all q d) other (tracks.each q d (omega (arith, length-set all (process_of event) new))))
  ];
}

-- ---- whose turn it is

not_write : (action : Action) (v : ℕ) → turn_for action ≡ Write v → action ≡ actions.Write v
not_write (actions.Write w) v h = cc
not_write (actions.Decide w) v h = absurd cc

pub due_write : (due : Action) (last : Option Event) (v : ℕ) → turn_after due last ≡ Write v → IsNothingOrSnap last × (due ≡ actions.Write v)
due_write due None v h = (tt, not_write due v h)
due_write due (Some (events.Write p w)) v h = absurd cc
due_write due (Some (events.Snap p row)) v h = (tt, not_write due v h)
due_write due (Some (events.Decide p w)) v h = absurd cc

not_decide : (action : Action) (v : ℕ) → turn_for action ≡ Decide v → action ≡ actions.Decide v
not_decide (actions.Write w) v h = absurd cc
not_decide (actions.Decide w) v h = cc

-- the first thing that a process does is no decision
pub due_decide : (spec : RoomSpec) (history : List Event) (p v : ℕ) (last : Option Event) → latest (event_by p) history ≡ last → turn_after (action_due spec history p) last ≡ Decide v
    → IsSnap last × (action_due spec history p ≡ actions.Decide v)
due_decide spec history p v None is h =
    let due = not_decide (action_due spec history p) v h in
    let seen = none_seen p history is in
    absurd (let first = rw seen at due in cc)
due_decide spec history p v (Some (events.Write q w)) is h = absurd cc
due_decide spec history p v (Some (events.Snap q row)) is h = (tt, not_decide (action_due spec history p) v h)
due_decide spec history p v (Some (events.Decide q w)) is h = absurd cc

not_snap : (action : Action) → turn_for action ≡ Snap → ⊥
not_snap (actions.Write w) h = absurd cc
not_snap (actions.Decide w) h = absurd cc

pub due_snap : (due : Action) (last : Option Event) → turn_after due last ≡ Snap → IsWrite last
due_snap due None h = absurd (not_snap due h)
due_snap due (Some (events.Write p w)) h = tt
due_snap due (Some (events.Snap p row)) h = absurd (not_snap due h)
due_snap due (Some (events.Decide p w)) h = absurd cc

-- ---- events that may follow

pub write_follows : (spec : RoomSpec) (all : List Process) (history : List Event) (p v : ℕ) (d : Process) → Tracks spec all history → p < length all
    → (get_or all p d).turn ≡ Write v → (get_or all p d).writes < spec.rounds
    → MayWrite spec history p v × Tracks spec (set all p (record { input = (get_or all p d).input; turn = Snap; last = Some v; writes = (get_or all p d).writes + 1 })) (history ++ events.Write p v ∷ [])
write_follows spec all history p v d tracks within turn few =
    let at = tracks.each p d within in
    let due = due_write (action_due spec history p) (latest (event_by p) history) v (sym at.turn ∙ turn) in (
      record { process = omega (arith, tracks.count); in_turn = due.0; value = due.1; rounds = omega (arith, at.writes) },
      tracks_after spec all history (events.Write p v) _ within (at_write spec history p v (get_or all p d) turn at) tracks,
    )

pub decide_follows : (spec : RoomSpec) (all : List Process) (history : List Event) (p v : ℕ) (d : Process) → Tracks spec all history → p < length all
    → (get_or all p d).turn ≡ Decide v
    → MayDecide spec history p v × Tracks spec (set all p (record { input = (get_or all p d).input; turn = Over; last = (get_or all p d).last; writes = (get_or all p d).writes })) (history ++ events.Decide p v ∷ [])
decide_follows spec all history p v d tracks within turn =
    let at = tracks.each p d within in
    let due = due_decide spec history p v (latest (event_by p) history) refl (sym at.turn ∙ turn) in (
      record { process = omega (arith, tracks.count); in_turn = due.0; value = due.1 },
      tracks_after spec all history (events.Decide p v) _ within (at_decide spec history p v (get_or all p d) turn at) tracks,
    )

pub snap_follows : (spec : RoomSpec) (all : List Process) (history : List Event) (p : ℕ) (row : ArrayVec (Option ℕ)) (d : Process) → Tracks spec all history → p < length all
    → (get_or all p d).turn ≡ Snap → row.items ≡ lasts all
    → MaySnap spec history p row.items
    × Tracks spec (set all p (record { input = (get_or all p d).input; turn = turn_for (next_action spec.protocol (get_or all p d).input p (get_or all p d).writes row.items); last = (get_or all p d).last; writes = (get_or all p d).writes })) (history ++ events.Snap p row ∷ [])
snap_follows spec all history p row d tracks within turn is =
    let at = tracks.each p d within in (
      record {
        process = omega (arith, tracks.count);
        width = ap length is ∙ length-map all (λ process. process.last) ∙ tracks.count;
        in_turn = due_snap (action_due spec history p) (latest (event_by p) history) (sym at.turn ∙ turn);
        entries = λ q below. rw is (get_or-map (λ (process : Process). process.last) all q d None (omega (arith, tracks.count)) ∙ (tracks.each q d (omega (arith, tracks.count))).last);
      },
      tracks_after spec all history (events.Snap p row) _ within (at_snap spec history p row (get_or all p d) turn at) tracks,
    )
