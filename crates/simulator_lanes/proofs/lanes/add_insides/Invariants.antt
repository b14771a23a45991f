use Rattle.std.proofs.Common.{◌≡◌, ◌++◌}
use Rattle.std.specs.List.{flat_map, range_with_len}
use Rattle.simulator_lanes.specs.Lanes.{lane_insides}
use Rattle.simulator_lanes.proofs.lanes.add_insides.Given as goal

abbrev pub invariant-loop-simulator : goal.invariant-loop-simulator
invariant-loop-simulator l = l.sheet ≡ l.initial.sheet ++ flat_map (lane_insides l.grid l.columns) (range_with_len 0 l.simulator)
