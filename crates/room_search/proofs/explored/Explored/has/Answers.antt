use Rattle.std.proofs.Common.{◌≡◌, ℕ, List, sym, subst, ap, ◌∙◌}
use Rattle.std.specs.List.{Contains}
use Rattle.std.proofs.lemmas.Option.{get_or_from_slice_get}
use Rattle.room_search.specs.Nodes.{Node, set_of}
use Rattle.room_search.proofs.Growing.{number_there}
use Rattle.room_search.proofs.explored.Explored.has.Goals as goal

pub returns : goal.returns
returns c = λ yes node is.
    let here : c.index.result.now ≡ node = c.index.ensures ∙ get_or_from_slice_get c.args.self.now.nodes.items c.args.cursor node c.index.result.now is in
    subst (λ (l : List ℕ). Contains l c.args.at.number) (c.set.ensures ∙ ap (λ (k : ℕ). set_of c.index.result.now k) c.from.ensures ∙ ap (λ (n : Node). set_of n c.args.at.simulator) here)
    (number_there c.set.result.now c.args.at.number (sym c.contains.ensures.value ∙ yes))
