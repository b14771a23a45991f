use Rattle.simulator_lanes.proofs.Apart.{squares_apart}
use Rattle.simulator_lanes.proofs.laws.squares_are_apart.Goals as goal

pub returns : goal.returns
returns c = squares_apart
