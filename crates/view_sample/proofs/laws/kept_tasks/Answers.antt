use Rattle.view_sample.proofs.Keeping.{kept_ordinary, kept_task}
use Rattle.view_sample.proofs.laws.kept_tasks.Goals as goal

pub returns : goal.returns
returns c = record {
  judged = λ room fields limits are. kept_task room fields limits are;
  ordinary = λ room fields limits are ordinary. kept_ordinary room fields limits are ordinary;
}
