use Rattle.run_search.proofs.Allowing.{AreSo}
use Rattle.run_search.proofs.task.allow_all.Given as goal

abbrev pub invariant-loop-local : goal.invariant-loop-local
invariant-loop-local l = AreSo l.spec l.most l.fn.decided.items l.set l.decided.items l.local-index
