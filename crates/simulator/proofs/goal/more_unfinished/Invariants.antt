use Rattle.std.proofs.Common.{◌≡◌, ◌+◌, drop}
use Rattle.simulator.specs.Minds.{unfinished_in}
use Rattle.simulator.proofs.goal.more_unfinished.Given as goal

abbrev pub invariant-loop-goal : goal.invariant-loop-goal
invariant-loop-goal l = unfinished_in l.goals + l.left ≡ l.count + unfinished_in (drop l.goal-index l.goals)
