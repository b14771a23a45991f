use Rattle.run_search.specs.Judging.{DoNodesKeep}
use Rattle.run_search.proofs.judging.first_breaking.Given as goal

abbrev pub invariant-loop-index : goal.invariant-loop-index
invariant-loop-index l = DoNodesKeep l.spec l.most l.nodes l.from l.index
