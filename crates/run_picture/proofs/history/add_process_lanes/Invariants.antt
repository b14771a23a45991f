use Rattle.std.proofs.Common.{◌≡◌, ◌++◌}
use Rattle.std.specs.List.{flat_map, range_with_len}
use Rattle.run_picture.specs.History.{row_processes}
use Rattle.run_picture.proofs.history.add_process_lanes.Given as goal

abbrev pub invariant-loop-row : goal.invariant-loop-row
invariant-loop-row l = l.sheet ≡ l.initial.sheet ++ flat_map (row_processes l.chart.grid l.right l.chart.panel.now) (range_with_len 0 l.row)
