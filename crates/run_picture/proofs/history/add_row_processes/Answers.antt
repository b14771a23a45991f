use Rattle.run_picture.specs.History.{process_lane}
use Rattle.simulator_lanes.proofs.CallerLemmas.{piece_more}
use Rattle.run_picture.proofs.history.add_row_processes.Goals as goal

pub loop-process-preserved : goal.loop-process-preserved
loop-process-preserved c = piece_more (process_lane c.args.chart.now.grid c.args.right c.args.chart.now.panel.now c.args.row) _ _ _ _ c.loop-process.invariant c.in_ok-add_process_lane.ensures
