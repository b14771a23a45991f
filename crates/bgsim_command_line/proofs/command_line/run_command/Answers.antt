use Rattle.std.proofs.Common.{rules}
use Rattle.bgsim_command_line.proofs.command_line.run_command.Goals as goal

pub returns-clause-app : goal.returns-clause-app
returns-clause-app c = search rules
