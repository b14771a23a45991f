use Rattle.std.proofs.Common.{◌≡◌, ◌++◌}
use Rattle.std.specs.List.{flat_map, range_with_len}
use Rattle.simulator_lanes.specs.Turns.{bar_part}
use Rattle.simulator_lanes.proofs.turns.add_bar_parts.Given as goal

abbrev pub invariant-loop-row : goal.invariant-loop-row
invariant-loop-row l = l.sheet ≡ l.initial.sheet ++ flat_map (bar_part l.grid l.span.first l.span.last l.span.step) (range_with_len 0 l.row)
