use Rattle.simulator.proofs.Stepping.{moves, open_moves, out_of_turns}
use Rattle.simulator.proofs.laws.step_means_operation.Goals as goal

pub returns : goal.returns
returns c = record { ready = moves; in_turn = open_moves; out_of_turns = out_of_turns }
