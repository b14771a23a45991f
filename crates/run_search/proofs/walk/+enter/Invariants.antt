use Rattle.run_search.proofs.walk.+enter.Given as goal

abbrev pub decreases-enter : goal.decreases-enter
decreases-enter l = l.index
