use Rattle.simulator.proofs.Processes.{AreFirst}
use Rattle.simulator.proofs.goal.add_first_goals.Given as goal

abbrev pub invariant-loop-process : goal.invariant-loop-process
invariant-loop-process l = AreFirst l.spec l.goals.items l.process
