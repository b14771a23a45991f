use Rattle.clap.specs.Words.{found_of, subcommand_rows_of}
use Rattle.bgview_command_line.proofs.Finding.{value_found}
use Rattle.bgview_command_line.proofs.values.value_among.Goals as goal

pub returns-in-Some : goal.returns-in-Some
returns-in-Some c = value_found c.args.name.now (subcommand_rows_of c.args.matches.now) (found_of c.in-Some.inner.now) _ c.get_str.ensures c.in-Some.ensures.rows
