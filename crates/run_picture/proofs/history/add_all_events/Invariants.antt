use Rattle.std.proofs.Common.{◌≡◌, ◌++◌, fold, max}
use Rattle.std.specs.List.{flat_map, range_with_len}
use Rattle.run_picture.specs.History.{boxed, lane_events, lane_right, tied}
use Rattle.simulator_lanes.specs.Layout.{right_of}
use Rattle.run_picture.proofs.history.add_all_events.Given as goal

abbrev pub invariant-loop-process : goal.invariant-loop-process
invariant-loop-process l =
    (l.ties ≡ l.initial.ties ++ flat_map (lane_events tied l.chart.panel.now l.chart.columns.now l.chart.grid) (range_with_len 0 l.process))
    × (l.boxes ≡ l.initial.boxes ++ flat_map (lane_events boxed l.chart.panel.now l.chart.columns.now l.chart.grid) (range_with_len 0 l.process))
    × (l.right ≡ fold (λ right process. max right (lane_right l.chart.panel.now l.chart.columns.now l.chart.grid process)) (right_of l.chart.grid) (range_with_len 0 l.process))
