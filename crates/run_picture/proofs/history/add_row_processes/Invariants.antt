use Rattle.std.proofs.Common.{◌≡◌, ◌++◌}
use Rattle.std.specs.List.{flat_map, range_with_len}
use Rattle.run_picture.specs.History.{process_lane}
use Rattle.run_picture.proofs.history.add_row_processes.Given as goal

abbrev pub invariant-loop-process : goal.invariant-loop-process
invariant-loop-process l = l.sheet ≡ l.initial.sheet ++ flat_map (process_lane l.chart.grid l.right l.chart.panel.now l.row) (range_with_len 0 l.process)
