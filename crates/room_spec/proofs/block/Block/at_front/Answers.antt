use Rattle.std.proofs.Common.{arith}
use Rattle.room_spec.proofs.Fronts.{ended}
use Rattle.room_spec.proofs.block.Block.at_front.Goals as goal

pub invariant_of-result : goal.invariant_of-result
invariant_of-result c =
    ended c.args.text.now c.in_ok-end.end.body c.in_ok-end.end.lines c.min-len.result c.in_ok-end.ensures.body c.in_ok-end.ensures.lines (omega (arith, c.in_ok-end.ensures.within)) c.min-len.ensures
