use Rattle.simulator.proofs.Keeping.{opens}
use Rattle.simulator.proofs.laws.minds_open.Goals as goal

pub returns : goal.returns
returns c = opens
