use Rattle.std.proofs.Common.{rules, map, arith}
use Rattle.std.proofs.lemmas.Grind.{common_steps}
use Rattle.clap.specs.Words.{subcommand_rows_of}
use Rattle.bgsim_command_line.proofs.Naming.{is_asked, no_words}
use Rattle.bgsim_command_line.proofs.Taken.{only_memory}
use Rattle.bgsim_command_line.proofs.command_line.line.Goals as goal

pub returns-clause-asked : goal.returns-clause-asked
returns-clause-asked g c =
    is_asked (map g.S.AsStr.text c.args.words.now) (subcommand_rows_of c.in_ok-matches.matches) _ _ (λ none. let zero = no_words g.S.AsStr.text c.args.words.now none in grind (arith, rules)) c.in_ok-matches.ensures.kinds c.in_ok-matches.ensures.sound (search rules) (search rules)

pub returns-in_err-matches-clause-plain : goal.returns-in_err-matches-clause-plain
returns-in_err-matches-clause-plain g c = λ mode plain. only_memory (map g.S.AsStr.text c.args.words.now) mode c.from_residual.result (search rules) plain

pub returns-clause-number : goal.returns-clause-number
returns-clause-number g c = grind (arith, common_steps)

pub returns-clause-kinds : goal.returns-clause-kinds
returns-clause-kinds g c = grind (arith, common_steps)

pub returns-then-is_empty-clause-asked : goal.returns-then-is_empty-clause-asked
returns-then-is_empty-clause-asked g c = grind (arith, common_steps)

pub returns-then-is_empty-clause-kinds : goal.returns-then-is_empty-clause-kinds
returns-then-is_empty-clause-kinds g c = grind (arith, common_steps)

pub returns-in_err-matches-clause-nothing : goal.returns-in_err-matches-clause-nothing
returns-in_err-matches-clause-nothing g c = grind (arith, common_steps)

pub returns-in_err-matches-clause-kinds : goal.returns-in_err-matches-clause-kinds
returns-in_err-matches-clause-kinds g c = grind (arith, common_steps)
