use Rattle.std.proofs.Common.{rules}
use Rattle.simulator.proofs.mind.Mind.out_move.Goals as goal

pub returns : goal.returns
returns c = search rules
