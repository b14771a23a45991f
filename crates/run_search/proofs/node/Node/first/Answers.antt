use Rattle.arrayvec.specs.ArrayVec.{ArrayVec}
use Rattle.std.proofs.Common.{Option, ℕ, map, ◌≡◌, ◌<◌, ◌∷◌, [], List, length, get_or, sym, subst, ap, ◌∙◌, arith}
use Rattle.room_spec.specs.Rooms.{processes}
use Rattle.run_search.specs.declared.local_state.LocalState.{LocalState}
use Rattle.run_search.specs.Nodes.{AreWithinRounds, IsGrown}
use Rattle.run_search.specs.States.{blank, local_of}
use Rattle.run_search.specs.Steps.{lasts}
use Rattle.run_search.proofs.Closing.{first_within, pushed_kept, single_within, width_more}
use Rattle.run_search.proofs.Places.{get_or-state, length-state}
use Rattle.run_search.proofs.node.Node.first.Goals as goal

pub bounds-as_slice-p : goal.bounds-as_slice-p
bounds-as_slice-p c =
    let long = ap (λ (l : List LocalState). length l) (c.as_slice.ensures.value ∙ c.opening-state.ensures) in
    omega (arith, long, length-state c.args.spec.now [], c.loop-p-test.true, c.n-p-end.ensures.value)

pub close-requires-clause-rounds : goal.close-requires-clause-rounds
close-requires-clause-rounds c =
    let spec = c.args.spec.now in
    let p = c.loop-p.p in
    let below : p < processes spec = omega (arith, c.loop-p-test.true, c.n-p-end.ensures.value) in
    let is : get_or c.as_slice.result.now p blank ≡ local_of spec [] p = ap (λ (l : List LocalState). get_or l p blank) (c.as_slice.ensures.value ∙ c.opening-state.ensures) ∙ get_or-state spec [] p blank below in
    subst (λ (l : LocalState). AreWithinRounds spec (l ∷ [])) (sym is) (single_within spec (local_of spec [] p) (first_within spec p))

pub loop-p-preserved : goal.loop-p-preserved
loop-p-preserved c =
    let spec = c.args.spec.now in
    let row = c.row_of-row.result.items in
    let p = c.loop-p.p in
    let locals = c.in_ok-locals.locals in
    let set = c.in_ok-set.set in
    let below : p < processes spec = omega (arith, c.loop-p-test.true, c.n-p-end.ensures.value) in
    let is : get_or c.as_slice.result.now p blank ≡ local_of spec [] p = ap (λ (l : List LocalState). get_or l p blank) (c.as_slice.ensures.value ∙ c.opening-state.ensures) ∙ get_or-state spec [] p blank below in
    let grown : IsGrown spec row p (local_of spec [] p ∷ []) locals.items = subst (λ (l : LocalState). IsGrown spec row p (l ∷ []) locals.items) is c.in_ok-locals.ensures in
    let last = subst (IsGrown spec row p (local_of spec [] p ∷ [])) (sym c.in_ok-set.ensures) grown in
    record {
      width = width_more c.loop-p.own.items c.push.new.self.items set (λ s. s.value.items) p c.in_ok-push.ensures.items c.loop-p.invariant.width;
      each = pushed_kept (λ q set. IsGrown spec row q (local_of spec [] q ∷ []) set) c.loop-p.own.items c.push.new.self.items set (λ s. s.value.items) p c.in_ok-push.ensures.items c.loop-p.invariant.width c.loop-p.invariant.each last;
    }

pub returns : goal.returns
returns c =
    let row_is = ap (λ (v : ArrayVec (Option ℕ)). v.items) c.in_ok-row.ensures.ok in
    record {
      width = let w = c.loop-p.invariant.width in omega (arith, w, c.loop-p-test.false, c.loop-p.auto.p-end, c.n-p-end.ensures.value);
      row = row_is ∙ c.row_of-row.ensures ∙ ap (λ (l : List LocalState). lasts l) c.opening-state.ensures;
      sets = λ p below.
          subst (λ (r : List (Option ℕ)). IsGrown c.args.spec.now r p (local_of c.args.spec.now [] p ∷ []) (get_or (map (λ set. set.value.items) c.loop-p.own.items) p [])) (sym row_is)
          (c.loop-p.invariant.each p (omega (arith, below, c.loop-p-test.false, c.n-p-end.ensures.value)));
    }
