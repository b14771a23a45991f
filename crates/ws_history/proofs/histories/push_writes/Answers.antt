use Rattle.std.proofs.Common.{◌≡◌, ◌+◌, ◌-◌, ◌<◌, ◌∙◌, ◌++◌, [], ℕ, suc, List, Option, length, map, max, set, get_or, ap, refl, sym, subst, arith}
use Rattle.std.proofs.lemmas.List.{append-nil}
use Rattle.std.proofs.lemmas.List.FromFn.{length-map-range_with_len}
use Rattle.room_spec.specs.Rooms.{processes}
use Rattle.transcript.specs.declared.event.Event.{Event}
use Rattle.transcript.specs.declared.event.Event.TheVariants.{Write}
use Rattle.room_core.specs.Agreements.{shown, written}
use Rattle.ws_history.specs.Histories.{by_process, new_writes}
use Rattle.ws_history.specs.declared.histories.Shown.{Shown}
use Rattle.ws_history.specs.Readings.{read_of}
use Rattle.ws_history.specs.Sources.{source_of}
use Rattle.std.specs.List.{range_with_len, refill}
use Rattle.ws_history.specs.Taking.{TakesMore}
use Rattle.ws_history.proofs.Showing.{IsShownTo, refilled, shows_all, shows_more, shows_same}
use Rattle.ws_history.proofs.Taken.{takes_as, takes_both}
use Rattle.ws_history.proofs.histories.push_writes.Goals as goal
use Rattle.ws_history.proofs.histories.push_writes.Goals.{then-deref-p+in_ok-shown, else-deref-p}

pub bounds-deref_mut-p : goal.bounds-deref_mut-p
bounds-deref_mut-p g c =
    let room = c.args.room.now in
    let long = length-map-range_with_len (λ (q : ℕ). shown room.spec (read_of room) q (get_or c.loop-p.shown.counts.items q 0)) 0 (processes room.spec) in
    let same = ap length (c.deref_mut.ensures.value ∙ c.loop-p.invariant.shows.view_is) in
    omega (arith, long, same)

pub loop-p-preserved : goal.loop-p-preserved
loop-p-preserved g c =
    let room = c.args.room.now in
    let p = c.loop-p.p in
    let has = g.S.EventSink.has_taken in
    let from = c.args.shown.now.counts.items in
    let upto = c.args.upto.now in
    let is = c.loop-p.invariant.shows in
    let events : ℕ → ℕ → List Event = λ q k. new_writes (source_of room.spec (read_of room)) q k (get_or upto q 0) in
    let f : ℕ → List Event = λ q. events q (get_or from q 0) in
    let turned : suc p ≡ p + 1 = omega arith in
    let below : p < processes room.spec = omega (arith, c.loop-p-test.true, c.process_count-p-end.ensures.value) in
    let now : get_or c.deref.result.now p 0 ≡ get_or c.loop-p.shown.counts.items p 0 = ap (λ (l : List ℕ). get_or l p 0) c.deref.ensures.0 in
    record {
      so_far = elim c.if-deref-p.branch as (λ _. TakesMore (has c.args.sink.now) (by_process f (p + 1)) (has c.if-deref-p.sink)) [
        | then-deref-p+in_ok-shown w ↦
            let at : get_or c.loop-p.shown.counts.items p 0 ≡ get_or from p 0 = is.left p (omega arith) in
            let taken = takes_both (has c.args.sink.now) (has c.loop-p.sink) (has w.push_writes_of.new.sink) (by_process f p) _ c.loop-p.invariant.so_far w.in_ok-shown.ensures.events in
            subst (λ sink. TakesMore (has c.args.sink.now) (by_process f (p + 1)) (has sink)) (sym w.sink-is)
            (takes_as (has c.args.sink.now) (has w.push_writes_of.new.sink) _ _ (ap (λ (k : ℕ). by_process f p ++ events p k) at ∙ ap (λ (k : ℕ). by_process f k) turned) taken)
        | else-deref-p w ↦
            let none : get_or upto p 0 - (get_or from p 0) ≡ 0 = omega (arith, w.if-deref-p.false, now, is.left p (omega arith)) in
            let no_writes : f p ≡ [] = ap (λ (k : ℕ). map (λ r. Write p (written room.spec (read_of room) p r)) (range_with_len (get_or from p 0 + 1) k)) none in
            subst (λ sink. TakesMore (has c.args.sink.now) (by_process f (p + 1)) (has sink)) (sym w.sink-is)
            (takes_as (has c.args.sink.now) (has c.loop-p.sink) _ _ (sym (append-nil (by_process f p)) ∙ ap (λ (l : List Event). by_process f p ++ l) (sym no_writes) ∙ ap (λ (k : ℕ). by_process f k) turned) c.loop-p.invariant.so_far)
      ];
      shows = elim c.if-deref-p.branch as (λ _. IsShownTo room from upto c.if-deref-p.shown.counts.items c.if-deref-p.shown.values.items (p + 1)) [
        | then-deref-p+in_ok-shown w ↦
            let last = get_or upto p 0 in
            let at : get_or c.loop-p.shown.counts.items p 0 ≡ get_or from p 0 = is.left p (omega arith) in
            let less = w.if-deref-p.true in
            let most : last ≡ max (get_or from p 0) last = omega (arith, less, now, is.left p (omega arith)) in
            let value = w.in_ok-shown.ensures.value ∙ ap (shown room.spec (read_of room) p) (ap (λ (k : ℕ). max k last) at ∙ sym most) in
            let shown_is = refilled c.loop-p.shown.counts.items (set w.deref_mut-then-deref-p.result.now p last) w.deref_mut-then-deref-p.result.now p last refl w.deref_mut-then-deref-p.ensures.value in
            let view_is = refilled c.loop-p.shown.values.items (set w.deref_mut.result.now p w.in_ok-shown.field-0) w.deref_mut.result.now p w.in_ok-shown.field-0 refl w.deref_mut.ensures.value in
            let last_view = refill (length c.loop-p.shown.values.items) c.loop-p.shown.values.items (set w.deref_mut.result.now p w.in_ok-shown.field-0) in
            let more = shows_more room from upto c.loop-p.shown.counts.items c.loop-p.shown.values.items p is below last w.in_ok-shown.field-0 most value in
            subst (λ (shown : Shown). IsShownTo room from upto shown.counts.items shown.values.items (p + 1)) (sym w.shown-is)
            (subst (λ (l : List ℕ). IsShownTo room from upto l last_view (p + 1)) (sym shown_is)
            (subst (λ (l : List (Option ℕ)). IsShownTo room from upto (set c.loop-p.shown.counts.items p last) l (p + 1)) (sym view_is) more))
        | else-deref-p w ↦
            subst (λ (shown : Shown). IsShownTo room from upto shown.counts.items shown.values.items (p + 1)) (sym w.shown-is)
            (shows_same room from upto c.loop-p.shown.counts.items c.loop-p.shown.values.items p is (omega (arith, w.if-deref-p.false, now)))
      ];
    }

pub returns-clause-shown : goal.returns-clause-shown
returns-clause-shown g c = shows_all c.args.room.now c.args.shown.now.counts.items c.args.upto.now c.loop-p.shown.counts.items c.loop-p.shown.values.items c.loop-p.p c.loop-p.invariant.shows (omega (arith, c.loop-p-test.false, c.process_count-p-end.ensures.value)) c.requires.upto
