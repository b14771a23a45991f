use Rattle.std.proofs.Common.{rules}
use Rattle.protocol_lang.proofs.Numerals.{capped_spelled}
use Rattle.protocol_lang.proofs.number.read_number.Goals as goal

pub returns-in_default-clause-spelled : goal.returns-in_default-clause-spelled
returns-in_default-clause-spelled c = λ n. capped_spelled c.args.text.now _ n (search rules)

pub returns-in-empty-clause-spelled : goal.returns-in-empty-clause-spelled
returns-in-empty-clause-spelled c = λ n. capped_spelled c.args.text.now _ n (search rules)

pub returns-in-empty-2-clause-spelled : goal.returns-in-empty-2-clause-spelled
returns-in-empty-2-clause-spelled c = λ n. capped_spelled c.args.text.now _ n (search rules)
