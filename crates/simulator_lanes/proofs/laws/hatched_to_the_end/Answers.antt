use Rattle.simulator_lanes.proofs.Staying.{hatched_to_the_end}
use Rattle.simulator_lanes.proofs.laws.hatched_to_the_end.Goals as goal

pub returns : goal.returns
returns c = hatched_to_the_end
