use Rattle.simulator.proofs.Spending.{steps_bounded}
use Rattle.simulator.proofs.laws.steps_are_bounded.Goals as goal

pub returns : goal.returns
returns c = steps_bounded
