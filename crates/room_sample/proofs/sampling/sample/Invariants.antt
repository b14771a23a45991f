use Rattle.std.proofs.Common.{◌-◌, ◌≤◌}
use Rattle.room_sample.specs.Samples.{IsSampleOf}
use Rattle.room_sample.proofs.sampling.sample.Given as goal

-- the runs so far are counted
abbrev pub invariant-loop-counting : goal.invariant-loop-counting
invariant-loop-counting g l = IsSampleOf l.spec l.plan l.counting.schedules l.counting.outcomes × (l.counting.schedules ≤ l.plan.schedules)

abbrev pub decreases-loop-counting : goal.decreases-loop-counting
decreases-loop-counting g l = l.plan.schedules - l.counting.schedules
