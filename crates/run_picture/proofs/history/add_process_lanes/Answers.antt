use Rattle.run_picture.specs.History.{row_processes}
use Rattle.simulator_lanes.proofs.CallerLemmas.{piece_more}
use Rattle.run_picture.proofs.history.add_process_lanes.Goals as goal

pub loop-row-preserved : goal.loop-row-preserved
loop-row-preserved c = piece_more (row_processes c.args.chart.now.grid c.args.right c.args.chart.now.panel.now) _ _ _ _ c.loop-row.invariant c.in_ok-add_row_processes.ensures
