use Rattle.std.proofs.Common.{rules}
use Rattle.simulator.proofs.mind.Mind.unfinished.Goals as goal

pub returns : goal.returns
returns c = search rules
