use Rattle.std.proofs.Common.{Some, subst, ap, ◌∙◌, arith}
use Rattle.std.proofs.lemmas.Option.{slice_get-get_or}
use Rattle.run_search.specs.Picks.{IsLeastSoFar}
use Rattle.run_search.specs.States.{blank}
use Rattle.run_search.proofs.Picking.{least_at_end, so_far_none}
use Rattle.run_search.proofs.pick.least_with.Goals as goal

pub loop-local-init : goal.loop-local-init
loop-local-init c = so_far_none c.args.set.now c.args.end

pub loop-local-preserved : goal.loop-local-preserved
loop-local-preserved c = c.lesser-least.ensures c.args.set.now c.loop-local.local-index (slice_get-get_or c.args.set.now c.loop-local.local-index blank c.loop-local-test.true) c.loop-local.invariant

pub unreachable-requires : goal.unreachable-requires
unreachable-requires c =
    let one = c.requires in
    c.loop-local.invariant.none c.in-None.is one.1.0 one.0 (let inside = one.1.1 in omega (arith, inside, c.loop-local-test.false)) (slice_get-get_or c.args.set.now one.1.0 one.0 one.1.1 ∙ ap Some one.1.2) one.2

pub returns : goal.returns
returns c = least_at_end c.args.set.now c.args.end c.loop-local.local-index c.in-Some.local (subst (IsLeastSoFar c.args.set.now c.args.end c.loop-local.local-index) c.in-Some.is c.loop-local.invariant) c.loop-local-test.false
