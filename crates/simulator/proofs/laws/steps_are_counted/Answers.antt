use Rattle.simulator.proofs.Stepping.{keeps_number, stays_in_turn, steps_by_one}
use Rattle.simulator.proofs.laws.steps_are_counted.Goals as goal

pub returns : goal.returns
returns c = record { steps = steps_by_one; number = keeps_number; in_turn = stays_in_turn }
