use Rattle.run_search.specs.Breaking.{IsLeastPick}
use Rattle.run_search.proofs.task.least_breaking_pick.Given as goal

abbrev pub invariant-loop-index : goal.invariant-loop-index
invariant-loop-index l = IsLeastPick l.spec l.most l.picks l.index l.least
