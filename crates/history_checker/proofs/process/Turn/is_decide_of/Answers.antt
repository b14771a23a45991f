use Rattle.std.proofs.Common.{rules}
use Rattle.history_checker.proofs.process.Turn.is_decide_of.Goals as goal

pub returns-in-Write : goal.returns-in-Write
returns-in-Write c = search rules

pub returns-in-Decide : goal.returns-in-Decide
returns-in-Decide c = search rules
