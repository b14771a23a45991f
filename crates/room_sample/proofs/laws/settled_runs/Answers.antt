use Rattle.room_sample.proofs.SameRuns.{settled_counted, settled_same}
use Rattle.room_sample.proofs.laws.settled_runs.Goals as goal

pub returns-clause-determined : goal.returns-clause-determined
returns-clause-determined c = λ spec crashes random schedule other room rooms one same. settled_same spec crashes random schedule other room rooms one same

pub returns-clause-counted : goal.returns-clause-counted
returns-clause-counted c = λ spec crashes random schedule other room states one run. settled_counted spec crashes random schedule other room states one run
