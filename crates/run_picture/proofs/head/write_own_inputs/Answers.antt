use Rattle.run_picture.proofs.OwnInputs.{one_more_own}
use Rattle.run_picture.proofs.head.write_own_inputs.Goals as goal

pub loop-simulator-preserved : goal.loop-simulator-preserved
loop-simulator-preserved c =
    one_more_own c.args.spec.now.own c.loop-simulator.simulator _ _ _ _ c.loop-simulator.invariant c.own.ensures c.in_ok-write_own_input.ensures
