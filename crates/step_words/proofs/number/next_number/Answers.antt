use Rattle.std.proofs.Common.{arith}
use Rattle.room_core.specs.Calls.{configuration_of}
use Rattle.step_words.proofs.Numbers.{steps_counted}
use Rattle.step_words.proofs.number.next_number.Goals as goal

pub returns : goal.returns
returns c = λ one.
    let counted = steps_counted (configuration_of c.args.room.now) one (c.spec-spec.ensures.counts one) in
    let steps = c.steps_so_far.ensures.value in
    omega (arith, counted, steps)
