use Rattle.run_search.specs.Nodes.{IsStateBefore}
use Rattle.run_search.proofs.node.Node.before.Given as goal

abbrev pub invariant-loop-q : goal.invariant-loop-q
invariant-loop-q l = IsStateBefore l.spec l.self l.node l.q l.state.items l.old.items
