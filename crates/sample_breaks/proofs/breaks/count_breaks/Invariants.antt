use Rattle.sample_breaks.specs.Breaks.{AreBreaks}
use Rattle.sample_breaks.proofs.breaks.count_breaks.Given as goal

abbrev pub invariant-loop-place : goal.invariant-loop-place
invariant-loop-place g l = AreBreaks l.judging.task.now l.judging.spec.now l.judging.plan.now l.place l.breaks
