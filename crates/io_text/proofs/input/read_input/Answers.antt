use Rattle.std.proofs.Common.{rules, arith}
use Rattle.std.proofs.lemmas.Grind.{common_steps}
use Rattle.io_text.proofs.input.read_input.Goals as goal

pub returns-clause-whole : goal.returns-clause-whole
returns-clause-whole c = search rules

pub returns-clause-reads : goal.returns-clause-reads
returns-clause-reads c = search rules

pub returns-clause-few : goal.returns-clause-few
returns-clause-few c = search rules

pub loop-text-preserved : goal.loop-text-preserved
loop-text-preserved c = grind (arith, common_steps)

pub returns-in_err-read_piece-clause-whole : goal.returns-in_err-read_piece-clause-whole
returns-in_err-read_piece-clause-whole c = grind (arith, common_steps)

pub returns-in_err-read_piece-clause-few : goal.returns-in_err-read_piece-clause-few
returns-in_err-read_piece-clause-few c = grind (arith, common_steps)
