use Rattle.std.proofs.Common.{rules}
use Rattle.simulator.proofs.mind.Mind.steps_taken.Goals as goal

pub returns : goal.returns
returns c = search rules
