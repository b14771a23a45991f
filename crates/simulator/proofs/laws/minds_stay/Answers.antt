use Rattle.simulator.proofs.Keeping.{kept}
use Rattle.simulator.proofs.laws.minds_stay.Goals as goal

pub returns : goal.returns
returns c = kept
