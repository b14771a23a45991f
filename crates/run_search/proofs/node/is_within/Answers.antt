use Rattle.std.proofs.Common.{List, get_or, subst, sym, ◌∙◌, arith, below_more}
use Rattle.std.specs.List.{Contains}
use Rattle.run_search.specs.declared.local_state.LocalState.{LocalState}
use Rattle.run_search.specs.States.{blank}
use Rattle.run_search.proofs.Closing.{at_place, read_there}
use Rattle.run_search.proofs.Same.{found_there, never_found, same_set}
use Rattle.run_search.proofs.node.is_within.Goals as goal

pub returns-then-eq : goal.returns-then-eq
returns-then-eq c = λ local there. subst (λ (l : List LocalState). Contains l local) (same_set c.args.some.now c.args.all.now (sym c.eq.ensures ∙ c.if-eq.true)) there

pub loop-local-preserved : goal.loop-local-preserved
loop-local-preserved c = below_more _ _ c.loop-local.invariant (found_there c.args.all.now (get_or c.args.some.now c.loop-local.local-index blank) (sym c.contains.ensures.value ∙ c.if-not-contains.false))

pub returns-then-not-contains : goal.returns-then-not-contains
returns-then-not-contains c =
    let local = get_or c.args.some.now c.loop-local.local-index blank in
    (local, read_there c.args.some.now c.loop-local.local-index c.loop-local-test.true, never_found c.args.all.now local (sym c.contains.ensures.value ∙ c.if-not-contains.true))

pub returns : goal.returns
returns c = λ local there. at_place c.args.some.now c.args.all.now local (λ k below. c.loop-local.invariant k (omega (arith, below, c.loop-local-test.false))) there
