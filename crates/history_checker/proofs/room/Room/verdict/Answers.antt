use Rattle.std.proofs.Common.{rules}
use Rattle.history_checker.proofs.room.Room.verdict.Goals as goal

pub returns-in-Some : goal.returns-in-Some
returns-in-Some c = search rules
