use Rattle.ws_history.proofs.Alternation.{history_is_run, all_written}
use Rattle.ws_history.proofs.laws.history_is_run.Goals as goal

pub returns : goal.returns
returns c = record { run = λ spec src is. history_is_run spec src is; writes = λ spec src is p low. all_written spec src is p low }
