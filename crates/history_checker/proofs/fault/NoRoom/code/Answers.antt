use Rattle.std.proofs.Common.{rules}
use Rattle.history_checker.proofs.fault.NoRoom.code.Goals as goal

pub returns : goal.returns
returns c = search rules
