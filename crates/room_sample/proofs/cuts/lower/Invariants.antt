use Rattle.room_sample.specs.Shown.{KeepsOutcome}
use Rattle.room_sample.proofs.cuts.lower.Given as goal

abbrev pub invariant-loop : goal.invariant-loop
invariant-loop l = KeepsOutcome l.ending.spec.now l.ending.crashes l.ending.states.now.items l.initial.schedule.items l.schedule.items
