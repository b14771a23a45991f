use Rattle.simulator_lanes.specs.Lanes.{lane}
use Rattle.simulator_lanes.proofs.Texts.{piece_more}
use Rattle.simulator_lanes.proofs.lanes.add_row_lanes.Goals as goal

pub loop-simulator-preserved : goal.loop-simulator-preserved
loop-simulator-preserved c = piece_more (lane c.args.grid c.args.row) _ _ _ _ c.loop-simulator.invariant c.in_ok-add_lane.ensures
