use Rattle.std.proofs.Common.{rules, arith}
use Rattle.std.proofs.lemmas.Grind.{common_steps}
use Rattle.bgsim_console.proofs.engine.play_io.Goals as goal

pub returns-clause-text : goal.returns-clause-text
returns-clause-text c = search rules

pub returns-in_err-played-clause-text : goal.returns-in_err-played-clause-text
returns-in_err-played-clause-text c = grind (arith, common_steps)

pub returns-in_err-script-clause-text : goal.returns-in_err-script-clause-text
returns-in_err-script-clause-text c = grind (arith, common_steps)
