use Rattle.std.proofs.Common.{◌≡◌, ◌++◌, take}
use Rattle.std.specs.List.{flat_map}
use Rattle.simulator_lanes.specs.Lanes.{tick}
use Rattle.simulator_lanes.proofs.lanes.add_ticks.Given as goal

abbrev pub invariant-loop-column : goal.invariant-loop-column
invariant-loop-column l = l.sheet ≡ l.initial.sheet ++ flat_map (tick l.grid) (take l.column-index l.columns)
