use Rattle.std.proofs.Common.{◌≡◌, ◌+◌}
use Rattle.run_search.specs.Agreed.{AreAgreed, nodes_in}
use Rattle.run_search.proofs.reduction.search_reduction.Given as goal

abbrev pub invariant-loop-index : goal.invariant-loop-index
invariant-loop-index g l = record {
  agreed : AreAgreed l.spec l.crashes l.index l.all.items;
  left : nodes_in l.all.items + l.left ≡ l.limit;
}
