use Rattle.simulator.specs.Sweeps.{opening_sweep}
use Rattle.simulator.proofs.Counting.{counts_anew, counts_on}
use Rattle.simulator.proofs.laws.quiet_counts_stay.Goals as goal

pub returns : goal.returns
returns c = record { opens = λ spec i. counts_anew (opening_sweep spec i).mind; steps = counts_on; wakes = λ mind. counts_anew mind }
