use Rattle.simulator.proofs.Bounding.{turns_bounded}
use Rattle.simulator.proofs.laws.turns_are_bounded.Goals as goal

pub returns : goal.returns
returns c = turns_bounded
