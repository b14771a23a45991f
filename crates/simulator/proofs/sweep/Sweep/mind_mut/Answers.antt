use Rattle.std.proofs.Common.{rules}
use Rattle.simulator.proofs.sweep.Sweep.mind_mut.Goals as goal

pub returns : goal.returns
returns c = search rules
