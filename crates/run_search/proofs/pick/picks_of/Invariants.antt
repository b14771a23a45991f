use Rattle.run_search.specs.Picks.{ArePicks}
use Rattle.run_search.proofs.pick.picks_of.Given as goal

abbrev pub invariant-loop-p : goal.invariant-loop-p
invariant-loop-p l = ArePicks l.spec l.most l.node l.p l.picks.items
