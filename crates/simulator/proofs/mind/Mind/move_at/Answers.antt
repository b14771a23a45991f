use Rattle.std.proofs.Common.{rules}
use Rattle.simulator.proofs.mind.Mind.move_at.Goals as goal

pub returns-in-Rest : goal.returns-in-Rest
returns-in-Rest c = search rules

pub returns-in-Raise : goal.returns-in-Raise
returns-in-Raise c = search rules
