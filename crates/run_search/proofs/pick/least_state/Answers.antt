use Rattle.std.proofs.Common.{◌<◌, List, get_or, length, sym, subst, ap, ◌∙◌, arith}
use Rattle.std.specs.List.{Contains}
use Rattle.std.proofs.lemmas.List.{length_push}
use Rattle.room_spec.specs.Rooms.{processes}
use Rattle.run_search.specs.declared.ended.Ended.{Ended}
use Rattle.run_search.specs.declared.ended.Ended.TheVariants.{Decided, Stopped}
use Rattle.run_search.specs.declared.local_state.LocalState.{LocalState}
use Rattle.run_search.specs.Nodes.{set_of}
use Rattle.run_search.specs.Picks.{IsLeast}
use Rattle.run_search.specs.States.{blank}
use Rattle.run_search.proofs.Listing.{each_push}
use Rattle.run_search.proofs.Picking.{end_at, ends_are_these, length-ends, read_same, sum_less}
use Rattle.run_search.proofs.pick.least_state.Goals as goal

pub least_with-requires : goal.least_with-requires
least_with-requires c =
    let p = c.loop-p.p in
    let some = c.requires.some in
    let below : p < processes c.args.spec.now = omega (arith, c.loop-p-test.true, c.n-p-end.ensures.value) in
    let wide = some.1.width in (
      get_or some.0 p blank,
      subst (λ (l : List LocalState). Contains l (get_or some.0 p blank)) (sym c.set.ensures) (some.1.each p below),
      sym (ap (λ (l : List Ended). get_or l p (Decided 0)) (c.as_slice.ensures.value ∙ some.2) ∙ end_at some.0 p (Decided 0) (omega (arith, below, wide))),
    )

pub loop-p-preserved : goal.loop-p-preserved
loop-p-preserved c =
    let p = c.loop-p.p in
    let some = c.requires.some in
    let below : p < processes c.args.spec.now = omega (arith, c.loop-p-test.true, c.n-p-end.ensures.value) in
    let wide = some.1.width in
    let long = ap (λ (l : List Ended). length l) some.2 in
    let inside : p < length c.args.ends.now.items = omega (arith, below, wide, long, length-ends some.0) in
    let end_is = ap (λ (l : List Ended). get_or l p (Decided 0)) c.as_slice.ensures.value ∙ read_same c.args.ends.now.items p Stopped (Decided 0) inside in
    let last = subst (λ (e : Ended). IsLeast (set_of c.args.node.now p) e c.least_with.result) end_is (subst (λ (l : List LocalState). IsLeast l (get_or c.as_slice.result.now p (Decided 0)) c.least_with.result) c.set.ensures c.least_with.ensures) in
    record {
      width = let more = ap (λ (l : List LocalState). length l) c.push.ensures.items in let before = c.loop-p.invariant.width in omega (arith, more, before, length_push c.loop-p.least.items c.least_with.result);
      each = each_push (λ q local. IsLeast (set_of c.args.node.now q) (get_or c.args.ends.now.items q Stopped) local) c.loop-p.least.items c.push.new.self.items c.least_with.result p c.push.ensures.items c.loop-p.invariant.width c.loop-p.invariant.each last;
    }

pub returns-clause-covers : goal.returns-clause-covers
returns-clause-covers c =
    let at = c.loop-p.auto.p-end in
    record {
      width = let wide = c.loop-p.invariant.width in omega (arith, wide, at, c.loop-p-test.false, c.n-p-end.ensures.value);
      each = λ q below. (c.loop-p.invariant.each q (omega (arith, below, c.loop-p-test.false, c.n-p-end.ensures.value))).among;
    }

pub returns-clause-ends : goal.returns-clause-ends
returns-clause-ends c =
    let some = c.requires.some in
    let wide = some.1.width in
    let mine = c.loop-p.invariant.width in
    let at = c.loop-p.auto.p-end in
    let long = ap (λ (l : List Ended). length l) some.2 in
    ends_are_these c.args.ends.now.items c.loop-p.least.items Stopped (omega (arith, wide, mine, at, long, length-ends some.0, c.loop-p-test.false, c.n-p-end.ensures.value))
    (λ p below. (c.loop-p.invariant.each p (omega (arith, below, mine))).end_is)

pub returns-clause-least : goal.returns-clause-least
returns-clause-least c = λ state covers ends_is.
    let wide = covers.width in
    let mine = c.loop-p.invariant.width in
    let at = c.loop-p.auto.p-end in
    sum_less c.loop-p.least.items state (omega (arith, wide, mine, at, c.loop-p-test.false, c.n-p-end.ensures.value)) (λ p below.
    let one = c.loop-p.invariant.each p (omega (arith, below, mine)) in
    let inside : p < length state = omega (arith, below, wide, mine, at, c.loop-p-test.false, c.n-p-end.ensures.value) in
    one.least (get_or state p blank) (covers.each p (omega (arith, inside, wide))) (sym (ap (λ (l : List Ended). get_or l p Stopped) ends_is ∙ end_at state p Stopped inside)))
