use Rattle.std.proofs.Common.{arith}
use Rattle.view_sum.proofs.ItemReading.{all_states, too_many}
use Rattle.view_sum.proofs.lines.states_of.Goals as goal

pub returns-then-values-gt-MAX_PROCESSES : goal.returns-then-values-gt-MAX_PROCESSES
returns-then-values-gt-MAX_PROCESSES c = too_many c.args.values.now c.if-values-gt-MAX_PROCESSES.true

pub returns : goal.returns
returns c =
    let few = c.if-values-gt-MAX_PROCESSES.false in
    let all = c.loop-one-test.false in
    all_states c.args.values.now c.loop-one.one-index c.loop-one.states.items (omega (arith, few)) (omega (arith, all)) c.loop-one.invariant.0
