use Rattle.std.proofs.Common.{◌≡◌, ◌∙◌, ℕ, true, Bool, cond, List, [], ◌∷◌, fold, Option, ap, sym}
use Rattle.std.specs.BTreeMap.{insert_entry}
use Rattle.std.specs.Ordering.{nat_cmp}
use Rattle.transcript.specs.declared.event.Event.{Event}
use Rattle.transcript.specs.declared.event.Event.TheVariants.{Snap}
use Rattle.room_core.specs.Agreements.{is_fixed, shown_of}
use Rattle.room_core.specs.Points.{Snaps}
use Rattle.ws_history.specs.Linearizations.{Timed, event_of}
use Rattle.ws_history.specs.Notes.{read_at}
use Rattle.ws_history.specs.Ordered.{put_in}
use Rattle.ws_history.specs.Readings.{read_of}
use Rattle.ws_history.specs.Sources.{source_of}
use Rattle.ws_history.proofs.LinearizedNotes.{row_shown}
use Rattle.ws_history.proofs.linearization.put_snapshot.Goals as goal

pub returns-in_ok-insert : goal.returns-in_ok-insert
returns-in_ok-insert c =
    let room = c.args.noted.now.room.now in
    let old = c.args.events.now.entries in
    let p = c.args.p in
    let r = c.args.r in
    let point : Timed = record { time = read_at room.spec c.args.noted.now.points.now (shown_of room.spec (read_of room) p r) p r; point = Snaps p r } in
    let passed : is_fixed room.spec (read_of room) p r ≡ true = sym c.is_fixed.ensures ∙ c.if-is_fixed.true in
    let time = c.read_at-time.ensures ∙ ap (λ (i : ℕ). read_at room.spec c.args.noted.now.points.now i p r) c.shown_of.ensures.value in
    let event : c.snapshot_of.result ≡ event_of (source_of room.spec (read_of room)) (Snaps p r) =
    c.snapshot_of.ensures ∙ ap (λ (row : List (Option ℕ)). Snap p (record { items = row })) (sym (row_shown room.spec (read_of room) p r)) in
    c.in_ok-insert.ensures.entries
    ∙ ap (λ (t : ℕ). insert_entry nat_cmp old t c.snapshot_of.result) time
    ∙ ap (λ (e : Event). insert_entry nat_cmp old point.time e) event
    ∙ ap (λ (b : Bool). fold (put_in room) old (cond b (point ∷ []) [])) (sym passed)
