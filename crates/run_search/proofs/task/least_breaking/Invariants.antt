use Rattle.run_search.specs.Breaking.{IsLeastBreaking}
use Rattle.run_search.proofs.task.least_breaking.Given as goal

abbrev pub invariant-loop-index : goal.invariant-loop-index
invariant-loop-index l = IsLeastBreaking l.spec l.most l.nodes l.index l.least
