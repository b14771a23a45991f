use Rattle.std.proofs.Common.{◌∙◌, ℕ, ap, max}
use Rattle.run_picture.specs.History.{boxed, lane_events, lane_right, tied}
use Rattle.simulator_lanes.proofs.CallerLemmas.{folded_more, piece_more}
use Rattle.run_picture.proofs.history.add_all_events.Goals as goal

pub loop-process-preserved : goal.loop-process-preserved
loop-process-preserved c = (
  piece_more (lane_events tied c.args.chart.now.panel.now c.args.chart.now.columns.now c.args.chart.now.grid) _ _ _ _ c.loop-process.invariant.0 c.in_ok-add_lane_events.ensures.ties,
  piece_more (lane_events boxed c.args.chart.now.panel.now c.args.chart.now.columns.now c.args.chart.now.grid) _ _ _ _ c.loop-process.invariant.1 c.in_ok-add_lane_events.ensures.boxes,
  folded_more (λ (right process : ℕ). max right (lane_right c.args.chart.now.panel.now c.args.chart.now.columns.now c.args.chart.now.grid process)) _ _ _ _ c.loop-process.invariant.2 (c.max-right.ensures ∙ ap (max c.loop-process.right) c.in_ok-add_lane_events.ensures.right),
)
