use Rattle.std.proofs.Common.{◌≡◌, map, refl, subst, ◌∙◌}
use Rattle.std.proofs.lemmas.Option.{get_or_from_slice_get}
use Rattle.room_search.specs.Nodes.{AreSetsAfter, Node}
use Rattle.room_search.specs.Steps.{AreWords}
use Rattle.room_search.proofs.Searching.{further_by, made_of}
use Rattle.room_search.proofs.Sets.{at_index}
use Rattle.room_search.proofs.explored.Explored.made.Goals as goal

pub sets_after-requires-clause-node : goal.sets_after-requires-clause-node
sets_after-requires-clause-node c = c.requires.searched.nodes c.args.cursor c.index.result.now (at_index c.args.self.now.nodes.items c.args.cursor c.index.result.now c.requires.there c.index.ensures)

pub returns-clause-further : goal.returns-clause-further
returns-clause-further c = further_by c.args.subject.now.spec.now c.args.self.now _ c.in_ok-sets.ensures.moves refl (λ none. none) c.requires.searched

pub returns-clause-made : goal.returns-clause-made
returns-clause-made c = λ node is.
    let spec = c.args.subject.now.spec.now in
    let moves = c.sets_after.new.moves in
    let here : c.index.result.now ≡ node = c.index.ensures ∙ get_or_from_slice_get c.args.self.now.nodes.items c.args.cursor node c.index.result.now is in
    let sets = map (λ set. set.items) c.in_ok-sets.sets.items in
    let copy = c.in_ok-said.ensures in
    let words : AreWords spec c.in_ok-said.said.items = subst (AreWords spec) copy.same (c.in_ok-sets.ensures.moves.are.said c.args.to.said copy.one copy.is) in (
      c.in_ok-said.said.items,
      copy,
      made_of spec moves.table.keys node c.new.result c.args.to.simulator c.args.to.number c.in_ok-said.said.items sets c.requires.simulator c.new.ensures.said c.new.ensures.sets words
          (subst (λ (n : Node). AreSetsAfter spec moves.table.keys n c.args.to.simulator c.args.to.number spec.simulators sets) here c.in_ok-sets.ensures.sets),
    )
