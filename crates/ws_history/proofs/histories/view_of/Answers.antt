use Rattle.std.proofs.Common.{ℕ, Option, None, List, ◌∙◌, length, get_or, ap, sym, arith}
use Rattle.std.proofs.lemmas.List.FromFn.{length-map-range_with_len, get_or-map-range_with_len, map-range_with_len_more}
use Rattle.room_spec.specs.Rooms.{processes}
use Rattle.room_core.specs.Agreements.{shown}
use Rattle.ws_history.specs.Readings.{read_of}
use Rattle.ws_history.proofs.histories.view_of.Goals as goal

pub bounds-deref-p-in-loop-p : goal.bounds-deref-p-in-loop-p
bounds-deref-p-in-loop-p c =
    let room = c.args.room.now in
    let long = length-map-range_with_len (λ (q : ℕ). shown room.spec (read_of room) q (get_or c.args.shown.now.counts.items q 0)) 0 (processes room.spec) in
    let same = ap length (c.deref-in-loop-p.ensures.0 ∙ c.requires.view) in
    omega (arith, long, same)

pub value_after-requires-clause-value : goal.value_after-requires-clause-value
value_after-requires-clause-value c =
    let room = c.args.room.now in
    let p = c.loop-p.p in
    ap (λ (l : List (Option ℕ)). get_or l p None) (c.deref-in-loop-p.ensures.0 ∙ c.requires.view)
    ∙ get_or-map-range_with_len (λ (q : ℕ). shown room.spec (read_of room) q (get_or c.args.shown.now.counts.items q 0)) 0 (processes room.spec) p p None (omega arith) (omega arith)
    ∙ ap (λ (l : List ℕ). shown room.spec (read_of room) p (get_or l p 0)) (sym c.deref.ensures.0)

pub loop-p-preserved : goal.loop-p-preserved
loop-p-preserved c =
    let more = map-range_with_len_more (λ (p : ℕ). shown c.args.room.now.spec (read_of c.args.room.now) p (get_or c.args.row.now p 0)) 0 c.loop-p.p c.loop-p.p (omega arith) in
    record { so_far = cc; count = omega arith }
