use Rattle.simulator.proofs.Ranging.{within}
use Rattle.simulator.proofs.laws.moves_are_within.Goals as goal

pub returns : goal.returns
returns c = within
