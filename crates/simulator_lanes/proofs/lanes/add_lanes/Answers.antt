use Rattle.simulator_lanes.specs.Lanes.{row_lanes}
use Rattle.simulator_lanes.proofs.Texts.{piece_more}
use Rattle.simulator_lanes.proofs.lanes.add_lanes.Goals as goal

pub loop-row-preserved : goal.loop-row-preserved
loop-row-preserved c = piece_more (row_lanes c.args.grid) _ _ _ _ c.loop-row.invariant c.in_ok-add_row_lanes.ensures
