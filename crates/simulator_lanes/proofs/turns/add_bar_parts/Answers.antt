use Rattle.simulator_lanes.specs.Turns.{bar_part}
use Rattle.simulator_lanes.proofs.Texts.{piece_more}
use Rattle.simulator_lanes.proofs.turns.add_bar_parts.Goals as goal

pub loop-row-preserved : goal.loop-row-preserved
loop-row-preserved c = piece_more (bar_part c.args.grid c.args.span.now.first c.args.span.now.last c.args.span.now.step) _ _ _ _ c.loop-row.invariant c.in_ok-add_bar_part.ensures
