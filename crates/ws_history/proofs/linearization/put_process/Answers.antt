use Rattle.std.proofs.Common.{◌≡◌, ◌∙◌, ◌+◌, ◌++◌, ℕ, suc, List, fold, ap, sym, arith}
use Rattle.std.proofs.lemmas.List.Sums.{fold-append}
use Rattle.transcript.specs.declared.event.Event.{Event}
use Rattle.ws_history.specs.Ordered.{put_in, read_points, round_points, write_points}
use Rattle.ws_history.specs.Readings.{read_of}
use Rattle.ws_history.proofs.linearization.put_process.Goals as goal

pub loop-k-preserved : goal.loop-k-preserved
loop-k-preserved c =
    let room = c.args.noted.now.room.now in
    let read = read_of room in
    let notes = c.args.noted.now.points.now in
    let start = c.args.events.now.entries in
    let p = c.args.p in
    let k = c.loop-k.k in
    let before = round_points room.spec read notes p k in
    let write = write_points room.spec read notes p (k + 1) in
    let snap = read_points room.spec read notes p (k + 1) in
    let turned : suc k ≡ k + 1 = omega arith in
    c.in_ok-put_snapshot.ensures
    ∙ ap (λ (l : List (ℕ × Event)). fold (put_in room) l snap) (c.in_ok-put_write.ensures ∙ ap (λ (l : List (ℕ × Event)). fold (put_in room) l write) c.loop-k.invariant)
    ∙ sym (fold-append (put_in room) (fold (put_in room) start before) write snap)
    ∙ sym (fold-append (put_in room) start before (write ++ snap))
    ∙ ap (λ (n : ℕ). fold (put_in room) start (round_points room.spec read notes p n)) turned
