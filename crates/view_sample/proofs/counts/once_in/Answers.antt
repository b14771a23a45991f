use Rattle.std.proofs.Common.{arith, sym}
use Rattle.room_sample.specs.Samples.{counted_of}
use Rattle.view_sample.specs.Counts.{one_if_once}
use Rattle.view_sample.proofs.Breaking.{one_summed}
use Rattle.view_sample.proofs.counts.once_in.Goals as goal

pub loop-index-preserved : goal.loop-index-preserved
loop-index-preserved c =
    let next = one_summed one_if_once c.args.outcomes.now c.loop-index.index (counted_of (c.in-Some.states.now, c.in-Some.outcome.now)) (sym c.in-Some.ensures) in
    (omega (arith, next, c.loop-index.invariant.0, c.one_if_once-once.ensures.value), omega (arith, c.loop-index.invariant.1, c.one_if_once-once.ensures.few))
