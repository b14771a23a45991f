use Rattle.std.proofs.Common.{List, [], ◌∷◌, ◌++◌, sym, subst, ap, ◌∙◌}
use Rattle.run_search.specs.Limits.{AreApart}
use Rattle.run_search.specs.Nodes.{AreGathered, Node}
use Rattle.run_search.proofs.Gathering.{gathered_first}
use Rattle.run_search.proofs.Limiting.{apart_first, none_listed}
use Rattle.run_search.proofs.explored.open.Goals as goal

pub returns : goal.returns
returns c =
    let alone = c.in_ok-add.ensures.nodes ∙ ap (λ (l : List Node). l ++ c.in_ok-first.first ∷ []) c.new-nodes.ensures.items in
    record {
      gathered = subst (AreGathered c.args.spec.now) (sym alone) (gathered_first c.args.spec.now c.in_ok-first.first c.in_ok-first.ensures);
      listed = c.in_ok-add.ensures.listed (none_listed _ _ c.new-nodes.ensures.items);
      apart = subst (AreApart c.args.spec.now) (sym alone) (apart_first c.args.spec.now c.in_ok-first.first);
    }
