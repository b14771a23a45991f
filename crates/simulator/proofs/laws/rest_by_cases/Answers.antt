use Rattle.simulator.proofs.Stepping.{begins, finished_only, finishes, runs_out}
use Rattle.simulator.proofs.laws.rest_by_cases.Goals as goal

pub returns : goal.returns
returns c = record {
  finished = λ spec mind is. (finished_only spec mind is, λ both. finishes spec mind is both.0 both.1);
  begins = begins;
  runs_out = runs_out;
}
