use Rattle.std.proofs.Common.{◌≡◌, ◌++◌, take}
use Rattle.std.specs.List.{flat_map}
use Rattle.simulator_lanes.specs.Turns.{turn}
use Rattle.simulator_lanes.proofs.turns.add_all_turns.Given as goal

abbrev pub invariant-loop-column : goal.invariant-loop-column
invariant-loop-column l = l.sheet ≡ l.initial.sheet ++ flat_map (turn l.grid l.columns) (take l.column-index l.columns)
