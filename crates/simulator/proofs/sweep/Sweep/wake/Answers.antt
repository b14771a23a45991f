use Rattle.std.proofs.Common.{rules}
use Rattle.simulator.proofs.sweep.Sweep.wake.Goals as goal

pub returns : goal.returns
returns c = search rules
