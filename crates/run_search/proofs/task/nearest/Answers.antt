use Rattle.std.proofs.Common.{◌+◌, refl, sym, subst}
use Rattle.run_search.specs.Breaking.{IsLeastBreaking}
use Rattle.run_search.proofs.Breaking.{kept_here}
use Rattle.run_search.proofs.task.nearest.Goals as goal

pub returns-then-is_before : goal.returns-then-is_before
returns-then-is_before c = λ nodes here before.
    let one = c.if-is_before.ensures refl in
    subst (IsLeastBreaking c.args.spec.now c.args.most nodes (c.args.indexed.now.index + 1)) (sym one.1)
    (kept_here c.args.spec.now c.args.most nodes c.args.indexed.now.index c.args.indexed.now.node.now one.0 here (subst (IsLeastBreaking c.args.spec.now c.args.most nodes c.args.indexed.now.index) one.1 before) one.2)

pub returns : goal.returns
returns c = λ nodes here before. c.nearer.ensures c.args.spec.now c.args.most nodes c.args.indexed.now.node.now here before c.in_ok-found.ensures
