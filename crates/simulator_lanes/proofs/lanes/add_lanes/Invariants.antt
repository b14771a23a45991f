use Rattle.std.proofs.Common.{◌≡◌, ◌++◌}
use Rattle.std.specs.List.{flat_map, range_with_len}
use Rattle.simulator_lanes.specs.Lanes.{row_lanes}
use Rattle.simulator_lanes.proofs.lanes.add_lanes.Given as goal

abbrev pub invariant-loop-row : goal.invariant-loop-row
invariant-loop-row l = l.sheet ≡ l.initial.sheet ++ flat_map (row_lanes l.grid) (range_with_len 0 l.row)
