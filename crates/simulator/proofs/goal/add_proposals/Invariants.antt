use Rattle.std.proofs.Common.{◌≡◌, replicate}
use Rattle.simulator.specs.declared.goal.Goal.TheVariants.{Propose}
use Rattle.simulator.proofs.goal.add_proposals.Given as goal

abbrev pub invariant-loop : goal.invariant-loop
invariant-loop l = l.goals.items ≡ replicate l.counter (Propose l.value)
