use Rattle.std.proofs.Common.{rules}
use Rattle.bgsim_console.proofs.answer.Goals as goal

pub returns-in-Play : goal.returns-in-Play
returns-in-Play c = search rules
