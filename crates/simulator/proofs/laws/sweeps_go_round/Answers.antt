use Rattle.std.proofs.Common.{arith}
use Rattle.simulator.proofs.Visiting.{all_visited}
use Rattle.simulator.proofs.laws.sweeps_go_round.Goals as goal

pub returns : goal.returns
returns c = λ spec mind process is left visited. all_visited mind.goals mind.process process (omega (arith, is.process, is.goals)) left visited is.order
