use Rattle.room_sample.proofs.Entering.{HasNotEntered}
use Rattle.room_sample.proofs.run.steps_into.Given as goal

abbrev pub invariant-loop-taken : goal.invariant-loop-taken
invariant-loop-taken l = HasNotEntered l.initial.room l.i l.taken l.room
