use Rattle.run_search.proofs.Walking.{HasGone}
use Rattle.run_search.proofs.run.Run.go_to.Given as goal

abbrev pub invariant-loop-p : goal.invariant-loop-p
invariant-loop-p l = HasGone l.spec l.fn.self.state.items l.to.items l.p l.self.events.items l.self.state.items
