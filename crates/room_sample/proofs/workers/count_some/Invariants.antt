use Rattle.room_sample.specs.Parts.{AreCountedFrom}
use Rattle.room_sample.proofs.workers.count_some.Given as goal

-- the outcomes of the runs so far
abbrev pub invariant-loop-done : goal.invariant-loop-done
invariant-loop-done l = AreCountedFrom l.spec l.plan l.places.first l.done l.tally
