use Rattle.std.proofs.lemmas.Grind.{common_steps}
use Rattle.std.proofs.Common.{rules, arith}
use Rattle.protocol_lang.proofs.lexer.front_token.Goals as goal

pub returns-in_err-word-in-97-to-122-clause-token : goal.returns-in_err-word-in-97-to-122-clause-token
returns-in_err-word-in-97-to-122-clause-token c = search rules

pub returns-in_ok-word-in-97-to-122-clause-onward : goal.returns-in_ok-word-in-97-to-122-clause-onward
returns-in_ok-word-in-97-to-122-clause-onward c = grind (arith, common_steps)

pub returns-in_ok-symbol-in_default-clause-token : goal.returns-in_ok-symbol-in_default-clause-token
returns-in_ok-symbol-in_default-clause-token c = grind (arith, common_steps)
