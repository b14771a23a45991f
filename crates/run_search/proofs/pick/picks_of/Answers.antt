use Rattle.std.proofs.Common.{◌∷◌, ◌++◌, [], List, sym, subst, ap, ◌∙◌, arith}
use Rattle.std.specs.Prelude.{slice_get}
use Rattle.run_search.specs.Picks.{AreLeast, ArePicks}
use Rattle.run_search.specs.States.{State}
use Rattle.run_search.proofs.Picking.{picks_first, picks_more, picks_short}
use Rattle.run_search.proofs.pick.picks_of.Goals as goal

pub loop-p-init : goal.loop-p-init
loop-p-init c =
    subst (ArePicks c.args.spec.now c.args.most c.args.node.now 0) (sym (c.in_ok-push.ensures.items ∙ ap (λ (l : List State). l ++ c.new.result ∷ []) c.new-picks.ensures.items))
    (picks_first c.args.spec.now c.args.most c.args.node.now c.new.result c.new.ensures)

pub extended-requires : goal.extended-requires
extended-requires c = λ i pick is.
    let short = picks_short c.args.spec.now c.args.most c.args.node.now c.loop-p.p c.loop-p.picks.items i pick c.loop-p.invariant (ap (λ (l : List State). slice_get l i) (sym c.as_slice.ensures.value) ∙ is) in
    omega (arith, short, c.loop-p-test.true, c.n-p-end.ensures.value, c.n-p-end.ensures.range.1)

pub loop-p-preserved : goal.loop-p-preserved
loop-p-preserved c =
    let are = subst (ArePicks c.args.spec.now c.args.most c.args.node.now c.loop-p.p) (sym c.as_slice.ensures.value) c.loop-p.invariant in
    let least = c.in_ok-options.ensures in
    picks_more c.args.spec.now c.args.most c.args.node.now c.loop-p.p c.as_slice.result.now c.in_ok-picks.picks.items c.set.result.now c.as_slice-in-loop-p.result.now are c.set.ensures
    (subst (AreLeast c.set.result.now) (sym c.as_slice-in-loop-p.ensures.value) least) c.in_ok-picks.ensures.each c.in_ok-picks.ensures.all

pub returns : goal.returns
returns c =
    let at = c.loop-p.auto.p-end in
    subst (λ n. ArePicks c.args.spec.now c.args.most c.args.node.now n c.loop-p.picks.items) (omega (arith, at, c.loop-p-test.false, c.n-p-end.ensures.value)) c.loop-p.invariant
