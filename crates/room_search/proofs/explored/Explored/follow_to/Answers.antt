use Rattle.std.proofs.Common.{List, refl, sym, subst, ◌∙◌}
use Rattle.std.specs.List.{Contains}
use Rattle.std.proofs.lemmas.List.Elements.{Contains-push}
use Rattle.std.proofs.lemmas.Option.{same_Some}
use Rattle.room_search.specs.declared.moves.Moves.{Moves}
use Rattle.room_search.specs.Moving.{IsSaidAt}
use Rattle.room_search.specs.Nodes.{IsNumberOf, Node}
use Rattle.room_search.specs.Searches.{IsMade}
use Rattle.room_search.specs.Steps.{local_of}
use Rattle.room_search.proofs.Moving.{number_grown, said_grown, said_once}
use Rattle.room_search.proofs.Searching.{below_itself, further_on, further_with, lead_made, lead_stays, node_there}
use Rattle.room_search.proofs.explored.Explored.follow_to.Goals as goal

pub returns-then-has-clause-leads : goal.returns-then-has-clause-leads
returns-then-has-clause-leads c = λ node local node_is step.
    let spec = c.args.subject.now.spec.now in
    let self = c.args.self.now in
    let saids = self.moves.said.keys in
    let there = c.requires.there in
    let node_said : IsSaidAt saids c.args.from.said node.said = subst (λ (n : Node). IsSaidAt saids c.args.from.said n.said) (same_Some there.0 node (sym there.1 ∙ node_is)) there.2 in
    let said = said_once saids c.args.from.said node.said step.stepped.said.shown.items node_said (subst (λ k. IsSaidAt saids k step.stepped.said.shown.items) c.if-to-from.true step.said_is) in
    lead_stays spec self.moves.table.keys self.nodes.items self.lost node c.args.to.simulator c.args.to.number local step.stepped (node_there self.nodes.items c.args.cursor node node_is) step.step said step.number_is (c.has.ensures c.if-has.true node node_is)

pub returns-in_ok-add-clause-further : goal.returns-in_ok-add-clause-further
returns-in_ok-add-clause-further c =
    let spec = c.args.subject.now.spec.now in
    let first = c.in_ok-node.ensures.further in
    let there = c.requires.there in
    let made = c.in_ok-node.ensures.made there.0 there.1 in
    further_on spec c.args.self.now c.made.new.self c.add.new.self first (further_with spec c.made.new.self c.add.new.self c.in_ok-node.node c.in_ok-add.ensures.moves c.in_ok-add.ensures.nodes c.in_ok-add.ensures.lost made.2.is first.searched)

pub returns-in_ok-add-clause-leads : goal.returns-in_ok-add-clause-leads
returns-in_ok-add-clause-leads c = λ node local node_is step.
    let spec = c.args.subject.now.spec.now in
    let to = c.in_ok-node.node in
    let number = c.args.to.number in
    let old = c.args.self.now.moves in
    let mid = c.made.new.self.moves in
    let on = c.in_ok-node.ensures.further.moves in
    let made = c.in_ok-node.ensures.made node node_is in
    let said = said_once mid.said.keys c.args.to.said made.0 step.stepped.said.shown.items made.1 (said_grown old.said.keys mid.said.keys c.args.to.said step.stepped.said.shown.items on.said step.said_is) in
    let is = number_grown old.table.keys mid.table.keys (local_of step.stepped) number on.table step.number_is in
    lead_made spec c.add.new.self.moves.table.keys c.add.new.self.nodes.items c.add.new.self.lost node to to c.args.to.simulator number local step.stepped made.0
    (subst (λ (l : List Node). Contains l to) (sym c.in_ok-add.ensures.nodes) (Contains-push c.made.new.self.nodes.items to)) (below_itself to) step.step said
    (subst (λ (m : Moves). IsNumberOf m.table.keys (local_of step.stepped) number) (sym c.in_ok-add.ensures.moves) is)
    (subst (λ (m : Moves). IsMade spec m.table.keys node c.args.to.simulator made.0 number to) (sym c.in_ok-add.ensures.moves) made.2)

pub returns-else-not-has_above-clause-leads : goal.returns-else-not-has_above-clause-leads
returns-else-not-has_above-clause-leads c = λ node local node_is step.
    let spec = c.args.subject.now.spec.now in
    let number = c.args.to.number in
    let old = c.args.self.now.moves in
    let new = c.made.new.self in
    let on = c.in_ok-node.ensures.further.moves in
    let made = c.in_ok-node.ensures.made node node_is in
    let said = said_once new.moves.said.keys c.args.to.said made.0 step.stepped.said.shown.items made.1 (said_grown old.said.keys new.moves.said.keys c.args.to.said step.stepped.said.shown.items on.said step.said_is) in
    let above = c.if-not-has_above.ensures refl in
    lead_made spec new.moves.table.keys new.nodes.items new.lost node c.in_ok-node.node above.0 c.args.to.simulator number local step.stepped made.0 above.1 above.2 step.step said
    (number_grown old.table.keys new.moves.table.keys (local_of step.stepped) number on.table step.number_is) made.2
