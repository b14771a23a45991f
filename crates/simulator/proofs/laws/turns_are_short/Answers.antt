use Rattle.simulator.proofs.Stepping.{bounded, rests}
use Rattle.simulator.proofs.laws.turns_are_short.Goals as goal

pub returns : goal.returns
returns c = record { in_turn = bounded; ended = rests }
