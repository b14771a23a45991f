use Rattle.std.proofs.Common.{◌∙◌, ◌++◌, ◌∷◌, [], ℕ, List, get_or, length, ap, ◌<◌, arith}
use Rattle.room_spec.specs.Rooms.{processes}
use Rattle.sim_memory.proofs.CallerLemmas.{row_at as row_entry, row_length}
use Rattle.transcript.specs.declared.event.Event.{Event}
use Rattle.transcript.specs.declared.event.Event.TheVariants.{Snap}
use Rattle.room_core.specs.Agreements.{row_at, shown_by}
use Rattle.ws_history.specs.Histories.{by_process, decided, new_writes}
use Rattle.ws_history.specs.Placing.{shown_with}
use Rattle.ws_history.specs.Readings.{read_of}
use Rattle.ws_history.specs.Sources.{decision_after, source_of}
use Rattle.ws_history.specs.Taking.{TakesMore}
use Rattle.ws_history.proofs.Taken.{takes_as, takes_both}
use Rattle.ws_history.proofs.histories.push_block.Goals as goal

pub returns-clause-events : goal.returns-clause-events
returns-clause-events g c =
    let room = c.args.room.now in
    let s = c.args.snapshot.now in
    let F = read_of room in
    let src = source_of room.spec F in
    let n = processes room.spec in
    let shown = c.args.shown.now.counts.items in
    let all = row_at room.spec F s.process s.round in
    let row = c.row_in-row.ensures.value in
    let has = g.S.EventSink.has_taken in
    let old = has c.args.sink.now in
    let middle = has c.push_writes.new.sink in
    let last = has c.push_snap.new.sink in
    let new = has c.push_decision.new.sink in
    let writes = by_process (λ (p : ℕ). new_writes src p (get_or shown p 0) (get_or all p 0)) n in
    let snap : List Event = Snap s.process (record { items = shown_by room.spec F all }) ∷ [] in
    let end = decided s.process (decision_after room.spec F s.process s.round) in
    let one : TakesMore old writes middle = takes_as old middle _ writes (ap (λ (l : List ℕ). by_process (λ (p : ℕ). new_writes src p (get_or shown p 0) (get_or l p 0)) n) row) c.in_ok-push_writes.ensures.events in
    let two : TakesMore middle snap last = takes_as middle last _ snap (ap (λ (l : List ℕ). Snap s.process (record { items = shown_by room.spec F l }) ∷ []) row) c.in_ok-push_snap.ensures in
    takes_both old last new (writes ++ snap) end (takes_both old middle last writes snap one two) c.in_ok-push_decision.ensures

pub returns-clause-shown : goal.returns-clause-shown
returns-clause-shown g c = c.in_ok-push_writes.ensures.shown ∙ ap (λ (l : List ℕ). shown_with c.args.shown.now.counts.items l) c.row_in-row.ensures.value

pub returns-clause-view : goal.returns-clause-view
returns-clause-view g c = c.in_ok-push_writes.ensures.view

pub bounds-greatest-from : goal.bounds-greatest-from
bounds-greatest-from g c =
    let room = c.args.room.now in
    let below : c.args.snapshot.now.process < processes room.spec = c.requires.is.process in
    let long = ap length c.requires.greatest ∙ row_length room.spec.simulators (processes room.spec) (read_of room).step in
    omega (arith, below, long, c.from.ensures)

pub push_decision-requires-clause-greatest : goal.push_decision-requires-clause-greatest
push_decision-requires-clause-greatest g c =
    let room = c.args.room.now in
    let p = c.args.snapshot.now.process in
    ap (λ (q : ℕ). get_or c.args.greatest.now q 0) c.from.ensures ∙ ap (λ (l : List ℕ). get_or l p 0) c.requires.greatest ∙ row_entry room.spec.simulators (processes room.spec) (read_of room).step p c.requires.is.process
