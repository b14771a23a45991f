use Rattle.std.proofs.Common.{◌∷◌, ◌++◌, [], Some, subst, ap, ◌∙◌, arith}
use Rattle.std.proofs.lemmas.Option.{get_or_from_slice_get, slice_get-get_or}
use Rattle.run_search.specs.Picks.{HasStandIn}
use Rattle.run_search.specs.States.{State}
use Rattle.run_search.proofs.Picking.{extended_more, none_picked}
use Rattle.run_search.proofs.pick.extended.Goals as goal

pub loop-pick-preserved : goal.loop-pick-preserved
loop-pick-preserved c =
    let i = c.loop-pick.pick-index in
    let one = c.in_ok-extend_one.ensures in
    let more = extended_more c.args.spec.now c.args.most c.args.picks.now c.args.options.now c.loop-pick.new.items c.extend_one.new.picks.items i c.pick-item.result c.loop-pick-test.true c.pick-item.is c.loop-pick.invariant.each c.loop-pick.invariant.all one.each one.all one.kept in
    record { each = more.0; all = more.1 }

pub returns-clause-all : goal.returns-clause-all
returns-clause-all c = λ pick option there option_there.
    let same = get_or_from_slice_get c.args.picks.now there.0 pick none_picked (slice_get-get_or c.args.picks.now there.0 pick there.1 ∙ ap Some there.2) in
    subst (λ (s : State). HasStandIn c.args.spec.now c.args.most c.loop-pick.new.items (s.items ++ option ∷ [])) same
    (c.loop-pick.invariant.all there.0 option (let inside = there.1 in omega (arith, inside, c.loop-pick-test.false)) option_there)
