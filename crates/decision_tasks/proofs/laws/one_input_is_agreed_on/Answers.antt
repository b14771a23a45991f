use Rattle.std.proofs.Common.{refl}
use Rattle.protocol_lang.specs.Reading.{reading, run, one_token, next_token}
use Rattle.decision_tasks.proofs.Agreeing.{agreed, allowed}
use Rattle.decision_tasks.proofs.laws.one_input_is_agreed_on.Goals as goal

pub returns-clause-read : goal.returns-clause-read
unfolding reading run one_token next_token
returns-clause-read c = refl

pub returns-clause-says : goal.returns-clause-says
returns-clause-says c = λ inputs decisions. (agreed inputs decisions, allowed inputs decisions)
