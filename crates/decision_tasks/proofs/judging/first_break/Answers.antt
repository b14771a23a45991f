use Rattle.std.proofs.Common.{arith}
use Rattle.decision_tasks.proofs.judging.first_break.Goals as goal

pub returns-clause-allowed : goal.returns-clause-allowed
returns-clause-allowed c = λ k d below. c.loop-index.invariant k d (omega arith) (omega (arith, below, c.loop-index-test.false, c.len-index-end.ensures))
