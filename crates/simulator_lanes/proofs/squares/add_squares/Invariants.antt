use Rattle.std.proofs.Common.{◌≡◌, ◌++◌, take}
use Rattle.std.specs.List.{flat_map}
use Rattle.simulator_lanes.specs.Squares.{square}
use Rattle.simulator_lanes.proofs.squares.add_squares.Given as goal

abbrev pub invariant-loop-column : goal.invariant-loop-column
invariant-loop-column l = l.sheet ≡ l.initial.sheet ++ flat_map (square l.grid l.spec) (take l.column-index l.columns)
