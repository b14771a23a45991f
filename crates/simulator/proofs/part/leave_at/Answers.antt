use Rattle.std.proofs.Common.{rules}
use Rattle.simulator.proofs.part.leave_at.Goals as goal

pub returns-then-saw_two : goal.returns-then-saw_two
returns-then-saw_two c = search rules
