use Rattle.simulator_lanes.proofs.Apart.{squares_within}
use Rattle.simulator_lanes.proofs.laws.squares_are_inside.Goals as goal

pub returns : goal.returns
returns c = squares_within
