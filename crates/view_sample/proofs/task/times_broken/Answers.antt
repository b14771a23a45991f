use Rattle.std.proofs.Common.{arith, sym}
use Rattle.room_sample.specs.Samples.{counted_of}
use Rattle.view_sample.proofs.Breaking.{one_counted, small}
use Rattle.view_sample.proofs.task.times_broken.Goals as goal

pub overflow_add-broken : goal.overflow_add-broken
overflow_add-broken c =
    let few = small c.args.spec.now c.args.outcomes.now c.loop-index.index (counted_of (c.in-Some.states.now, c.in-Some.outcome.now)) (let most = c.ranges.most.fits in omega (arith, most, c.requires)) (sym c.in-Some.ensures) in
    omega (arith, few, c.loop-index.invariant, c.times_if_broken-broken.ensures)

pub loop-index-preserved : goal.loop-index-preserved
loop-index-preserved c =
    let next = one_counted c.args.spec.now c.args.outcomes.now c.loop-index.index (counted_of (c.in-Some.states.now, c.in-Some.outcome.now)) (sym c.in-Some.ensures) in
    omega (arith, next, c.loop-index.invariant, c.times_if_broken-broken.ensures)
