use Rattle.room_sample.proofs.SameRuns.{run_same}
use Rattle.room_sample.proofs.laws.determined_runs.Goals as goal

pub returns : goal.returns
returns c = λ spec crashes random schedule other states others limits run run'. run_same spec crashes random schedule other states others limits run run'
