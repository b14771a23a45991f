use Rattle.run_search.proofs.Allowing.{AreOfFirst}
use Rattle.run_search.proofs.task.keeps_all.Given as goal

abbrev pub invariant-loop-p : goal.invariant-loop-p
invariant-loop-p l = AreOfFirst l.spec l.most l.node l.p l.decided.items
