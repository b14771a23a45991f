use Rattle.std.proofs.Common.{◌≡◌, ◌++◌, take}
use Rattle.std.specs.List.{flat_map}
use Rattle.simulator_lanes.specs.Proposals.{proposal_in}
use Rattle.simulator_lanes.proofs.proposals.add_all_proposals.Given as goal

abbrev pub invariant-loop-column : goal.invariant-loop-column
invariant-loop-column l = l.sheet ≡ l.initial.sheet ++ flat_map (proposal_in l.grid l.panel) (take l.column-index l.columns)
