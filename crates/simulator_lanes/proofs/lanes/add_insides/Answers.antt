use Rattle.simulator_lanes.specs.Lanes.{lane_insides}
use Rattle.simulator_lanes.proofs.Texts.{piece_more}
use Rattle.simulator_lanes.proofs.lanes.add_insides.Goals as goal

pub loop-simulator-preserved : goal.loop-simulator-preserved
loop-simulator-preserved c = piece_more (lane_insides c.args.grid c.args.columns.now) _ _ _ _ c.loop-simulator.invariant c.in_ok-add_lane_insides.ensures
