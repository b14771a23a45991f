use Rattle.room_sample.specs.Shown.{KeepsOutcome}
use Rattle.room_sample.proofs.cuts.lower_all.Given as goal

abbrev pub invariant-loop-at : goal.invariant-loop-at
invariant-loop-at l = KeepsOutcome l.ending.spec.now l.ending.crashes l.ending.states.now.items l.initial.schedule.items l.schedule.items
