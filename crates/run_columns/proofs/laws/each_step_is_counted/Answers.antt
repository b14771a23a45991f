use Rattle.run_columns.proofs.Counting.{counted, numbered}
use Rattle.run_columns.proofs.laws.each_step_is_counted.Goals as goal

pub returns-clause-numbered : goal.returns-clause-numbered
returns-clause-numbered c = numbered

pub returns-clause-counted : goal.returns-clause-counted
returns-clause-counted c = counted
