use Rattle.std.proofs.Common.{◌≡◌, ◌++◌, drop}
use Rattle.simulator_lanes.specs.Lanes.{insides_from}
use Rattle.simulator_lanes.proofs.lanes.add_lane_insides.Given as goal

abbrev pub invariant-loop-column : goal.invariant-loop-column
invariant-loop-column l =
    l.sheet ++ insides_from l.grid l.simulator l.phase (drop l.column-index l.columns) ≡ l.initial.sheet ++ insides_from l.grid l.simulator l.initial.phase l.columns
