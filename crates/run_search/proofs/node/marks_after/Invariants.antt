use Rattle.run_search.specs.Limits.{AreMarksAfter}
use Rattle.run_search.proofs.node.marks_after.Given as goal

abbrev pub invariant-loop-q : goal.invariant-loop-q
invariant-loop-q l = AreMarksAfter l.spec l.after.node.now l.after.process l.after.new l.marks
