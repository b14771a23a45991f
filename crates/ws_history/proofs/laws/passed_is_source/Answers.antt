use Rattle.ws_history.proofs.PassedSources.{is_source}
use Rattle.ws_history.proofs.laws.passed_is_source.Goals as goal

pub returns : goal.returns
returns c = λ spec src passed is. is_source spec src passed is
