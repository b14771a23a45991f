use Rattle.std.proofs.Common.{◌≡◌, Some, refl, sym, ap, subst, ◌∙◌, arith}
use Rattle.std.specs.Prelude.{slice_get}
use Rattle.std.proofs.lemmas.Option.{same_Some, slice_get-get_or}
use Rattle.run_search.specs.Breaking.{IsLeastBreakingIn}
use Rattle.run_search.specs.Nodes.{Covers, Node}
use Rattle.run_search.proofs.KeepingTasks.{none_so_far, one_keeps_more, run_breaks}
use Rattle.run_search.proofs.judging.first_breaking.Goals as goal

pub loop-index-init : goal.loop-index-init
loop-index-init c = none_so_far c.args.spec.now c.args.most c.args.nodes.now c.args.from

pub breaking_in-requires : goal.breaking_in-requires
breaking_in-requires c =
    let there : slice_get c.args.nodes.now c.loop-index.index ≡ Some c.index-nodes-index.result = slice_get-get_or c.args.nodes.now c.loop-index.index c.index-nodes-index.result (let at = c.loop-index.auto.index-end in omega (arith, at, c.loop-index-test.true)) ∙ ap Some (sym c.index-nodes-index.is) in
    (c.requires.gathered.whole c.loop-index.index c.index-nodes-index.result there).width

pub loop-index-preserved : goal.loop-index-preserved
loop-index-preserved c =
    let there : slice_get c.args.nodes.now c.loop-index.index ≡ Some c.index-nodes-index.result = slice_get-get_or c.args.nodes.now c.loop-index.index c.index-nodes-index.result (let at = c.loop-index.auto.index-end in omega (arith, at, c.loop-index-test.true)) ∙ ap Some (sym c.index-nodes-index.is) in
    one_keeps_more c.args.spec.now c.args.most c.args.nodes.now c.args.from c.loop-index.index c.index-nodes-index.result there
    (subst (IsLeastBreakingIn c.args.spec.now c.args.most c.index-nodes-index.result) c.in_default.is c.in_ok-found.ensures) c.loop-index.invariant

pub run_to-requires-clause-covers : goal.run_to-requires-clause-covers
run_to-requires-clause-covers c = λ node is.
    let there : slice_get c.args.nodes.now c.loop-index.index ≡ Some c.index-nodes-index.result = slice_get-get_or c.args.nodes.now c.loop-index.index c.index-nodes-index.result (let at = c.loop-index.auto.index-end in omega (arith, at, c.loop-index-test.true)) ∙ ap Some (sym c.index-nodes-index.is) in
    let found = subst (IsLeastBreakingIn c.args.spec.now c.args.most c.index-nodes-index.result) c.in-Some.is c.in_ok-found.ensures in
    subst (λ (n : Node). Covers c.args.spec.now n c.in-Some.state.items) (same_Some c.index-nodes-index.result node (sym there ∙ is)) (found.some c.in-Some.state refl).0

pub returns-in-loop-index-clause-breaks : goal.returns-in-loop-index-clause-breaks
returns-in-loop-index-clause-breaks c =
    run_breaks c.args.spec.now c.args.most c.index-nodes-index.result c.in-Some.state c.in_ok-events.events.items c.requires.task
    (subst (IsLeastBreakingIn c.args.spec.now c.args.most c.index-nodes-index.result) c.in-Some.is c.in_ok-found.ensures) c.in_ok-events.ensures

pub returns-clause-kept : goal.returns-clause-kept
returns-clause-kept c = λ i node past below is. c.loop-index.invariant i node past (omega (arith, below, c.loop-index-test.false)) is
