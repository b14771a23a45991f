use Rattle.script_play.proofs.Commands.{read_again}
use Rattle.script_play.proofs.entries.read_command.Goals as goal

pub returns-clause-complete : goal.returns-clause-complete
returns-clause-complete c = λ command asks. read_again c.args.line.now c.command_in.result c.command_in.ensures command asks
