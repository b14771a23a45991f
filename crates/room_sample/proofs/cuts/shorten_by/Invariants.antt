use Rattle.room_sample.specs.Shown.{KeepsOutcome}
use Rattle.room_sample.proofs.cuts.shorten_by.Given as goal

abbrev pub invariant-loop : goal.invariant-loop
invariant-loop l = KeepsOutcome l.ending.spec.now l.ending.crashes l.ending.states.now.items l.schedule l.short.items
