use Rattle.simulator.proofs.Counting.{idle_waits}
use Rattle.simulator.proofs.laws.idle_waits.Goals as goal

pub returns : goal.returns
returns c = λ spec mind quiet counts is process. idle_waits spec mind quiet process counts is
