use Rattle.std.proofs.Common.{◌+◌, ◌∙◌, ◌++◌, ◌∷◌, [], ℕ, List, ◌≡◌, Bool, false, cond, eqb, Option, None, Some, get_or, length, map, ap, sym, ne_eqb, arith}
use Rattle.std.specs.Prelude.{max}
use Rattle.std.specs.List.{range_with_len}
use Rattle.std.proofs.lemmas.List.FromFn.{get_or-map-range_with_len, length-map-range_with_len, map-range_with_len_more}
use Rattle.room_spec.specs.Rooms.{processes}
use Rattle.room_core.specs.Agreements.{shown, written}
use Rattle.room_core.specs.Calls.{RoomState}
use Rattle.transcript.specs.declared.event.Event.{Event}
use Rattle.transcript.specs.declared.event.Event.TheVariants.{Write}
use Rattle.ws_history.specs.Readings.{read_of}
use Rattle.ws_history.proofs.Taken.{takes_as, takes_both, takes_none}
use Rattle.ws_history.proofs.histories.push_writes_of.Goals as goal

-- what one write more shows
after : (room : RoomState) (p from more : ℕ) → shown room.spec (read_of room) p (from + (more + 1)) ≡ Some (written room.spec (read_of room) p (from + 1 + more))
after room p from more =
    let turned : from + (more + 1) ≡ from + 1 + more = omega arith in
    let some : eqb (from + 1 + more) 0 ≡ false = ne_eqb (from + 1 + more) 0 (λ e. absurd (omega arith)) in
    ap (shown room.spec (read_of room) p) turned ∙ ap (λ (b : Bool). cond b None (Some (written room.spec (read_of room) p (from + 1 + more)))) some

pub bounds-deref-p-2 : goal.bounds-deref-p-2
bounds-deref-p-2 g c =
    let room = c.args.room.now in
    let long = length-map-range_with_len (λ (q : ℕ). shown room.spec (read_of room) q (get_or c.args.before.now.counts.items q 0)) 0 (processes room.spec) in
    let same = ap length (c.deref-2.ensures.0 ∙ c.requires.view) in
    omega (arith, long, same, c.requires.process)

pub loop-more-init : goal.loop-more-init
loop-more-init g c =
    let room = c.args.room.now in
    let p = c.args.p in
    let none_more : get_or c.deref.result.now p 0 ≡ get_or c.deref.result.now p 0 + 0 = omega arith in
    record {
      so_far = takes_none (g.S.EventSink.has_taken c.args.sink.now);
      last = ap (λ (l : List (Option ℕ)). get_or l p None) (c.deref-2.ensures.0 ∙ c.requires.view)
          ∙ get_or-map-range_with_len (λ (q : ℕ). shown room.spec (read_of room) q (get_or c.args.before.now.counts.items q 0)) 0 (processes room.spec) p p None (omega (arith, c.requires.process)) (omega arith)
          ∙ ap (λ (l : List ℕ). shown room.spec (read_of room) p (get_or l p 0)) (sym c.deref.ensures.0)
          ∙ ap (shown room.spec (read_of room) p) none_more;
    }

pub loop-more-preserved : goal.loop-more-preserved
loop-more-preserved g c =
    let from = get_or c.deref.result.now c.args.p 0 in
    let f : ℕ → Event = λ r. Write c.args.p (written c.args.room.now.spec (read_of c.args.room.now) c.args.p r) in
    let before = map f (range_with_len (from + 1) c.loop-more.more) in
    let more = map-range_with_len_more f (from + 1) c.loop-more.more (from + 1 + c.loop-more.more) (omega arith) in
    let v = c.written-v.ensures ∙ ap (written c.args.room.now.spec (read_of c.args.room.now) c.args.p) c.from.ensures in
    let new = before ++ Write c.number_of.result c.written-v.result ∷ [] in
    let same = ap (λ (x : ℕ). before ++ Write x c.written-v.result ∷ []) c.number_of.ensures.value
    ∙ ap (λ (x : ℕ). before ++ Write c.args.p x ∷ []) v
    ∙ sym more in
    let has = g.S.EventSink.has_taken in
    record {
      so_far = takes_as (has c.args.sink.now) (has c.write.new.self) new _ same
          (takes_both (has c.args.sink.now) (has c.loop-more.sink) (has c.write.new.self) before (Write c.number_of.result c.written-v.result ∷ []) c.loop-more.invariant.so_far c.in_ok-write.ensures);
      last = ap (λ (x : ℕ). Some x) v ∙ sym (after c.args.room.now c.args.p from c.loop-more.more);
    }

pub returns-clause-value : goal.returns-clause-value
returns-clause-value g c =
    let room = c.args.room.now in
    let from = get_or c.deref.result.now c.args.p 0 in
    let all : from + c.loop-more.more ≡ max from c.args.upto = omega arith in
    c.loop-more.invariant.last ∙ ap (shown room.spec (read_of room) c.args.p) all
    ∙ ap (λ (l : List ℕ). shown room.spec (read_of room) c.args.p (max (get_or l c.args.p 0) c.args.upto)) c.deref.ensures.0
