use Rattle.transcript.proofs.Runs.{IsRun-nil, IsRun-push}
use Rattle.transcript.proofs.laws.runs_grow.Goals as goal

pub returns-clause-begin : goal.returns-clause-begin
returns-clause-begin c = IsRun-nil

pub returns-clause-grow : goal.returns-clause-grow
returns-clause-grow c = IsRun-push
