use Rattle.run_search.specs.Picks.{IsLeastSoFar}
use Rattle.run_search.proofs.pick.least_with.Given as goal

abbrev pub invariant-loop-local : goal.invariant-loop-local
invariant-loop-local l = IsLeastSoFar l.set l.end l.local-index l.least
