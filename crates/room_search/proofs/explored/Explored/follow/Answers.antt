use Rattle.std.proofs.Common.{refl, sym, subst, ◌∙◌}
use Rattle.std.proofs.lemmas.Bool.{true≢false}
use Rattle.room_search.specs.Moving.{GoOn, IsLeadOf, IsWithinLead}
use Rattle.room_search.proofs.Growing.{there_grown}
use Rattle.room_search.proofs.Moving.{said_grown, said_within}
use Rattle.room_search.proofs.Searching.{further_by, further_on, lead_here, lost_lead, no_lead, on_ok}
use Rattle.room_search.proofs.explored.Explored.follow.Goals as goal

pub lead-requires-clause-said : goal.lead-requires-clause-said
lead-requires-clause-said c = let there = c.requires.there in said_within c.args.self.now.moves.said.keys c.args.from.said there.0.said there.2

pub lead-requires-clause-number : goal.lead-requires-clause-number
lead-requires-clause-number c = let there = c.requires.there in (c.requires.searched.nodes c.args.cursor there.0 there.1).numbers c.args.from.simulator c.requires.simulator c.args.from.number there.3

pub returns-in-Nothing-clause-further : goal.returns-in-Nothing-clause-further
returns-in-Nothing-clause-further c = further_by c.args.subject.now.spec.now c.args.self.now _ c.in_ok-lead.ensures.moves refl (λ none. none) c.requires.searched

pub returns-in-Nothing-clause-leads : goal.returns-in-Nothing-clause-leads
returns-in-Nothing-clause-leads c = λ node local node_is local_is.
    let spec = c.args.subject.now.spec.now in
    let old = c.args.self.now.moves in
    let new = c.lead.new.self in
    let on = c.in_ok-lead.ensures.moves in
    let there = c.requires.there in
    let from = c.args.from in
    no_lead spec new.table.keys c.args.self.now.nodes.items c.args.self.now.lost node from.simulator local
    (subst (IsLeadOf spec new.said.keys new.table.keys node.said from.simulator local) c.in-Nothing.is
    (lead_here spec new.said.keys new.table.keys c.args.self.now.nodes.items c.args.cursor from c.in_ok-lead.lead there.0 node local c.in_ok-lead.ensures.lead there.1 (said_grown old.said.keys new.said.keys from.said there.0.said on.said there.2) node_is (there_grown old.table.keys new.table.keys from.number local on.table local_is)))

pub returns-in-Lost-clause-further : goal.returns-in-Lost-clause-further
returns-in-Lost-clause-further c =
    let spec = c.args.subject.now.spec.now in
    further_by spec c.args.self.now c.lose.new.self (subst (GoOn spec c.args.self.now.moves) (sym c.lose.ensures.moves) c.in_ok-lead.ensures.moves) c.lose.ensures.nodes (λ none. absurd (true≢false (sym c.lose.ensures.lost ∙ none))) c.requires.searched

pub returns-in-Lost-clause-leads : goal.returns-in-Lost-clause-leads
returns-in-Lost-clause-leads c = λ node local node_is local_is. lost_lead c.args.subject.now.spec.now c.lose.new.self.moves.table.keys c.lose.new.self.nodes.items c.lose.new.self.lost node c.args.from.simulator local c.lose.ensures.lost

pub follow_to-requires-clause-searched : goal.follow_to-requires-clause-searched
follow_to-requires-clause-searched c = (further_by c.args.subject.now.spec.now c.args.self.now _ c.in_ok-lead.ensures.moves refl (λ none. none) c.requires.searched).searched

pub follow_to-requires-clause-there : goal.follow_to-requires-clause-there
follow_to-requires-clause-there c = let there = c.requires.there in (there.0, there.1, said_grown c.args.self.now.moves.said.keys c.lead.new.self.said.keys c.args.from.said there.0.said c.in_ok-lead.ensures.moves.said there.2)

pub follow_to-requires-clause-said : goal.follow_to-requires-clause-said
follow_to-requires-clause-said c = (subst (IsWithinLead c.lead.new.self.said.keys c.lead.new.self.table.keys) c.in-To.is c.in_ok-lead.ensures.within).0

pub follow_to-requires-clause-number : goal.follow_to-requires-clause-number
follow_to-requires-clause-number c = (subst (IsWithinLead c.lead.new.self.said.keys c.lead.new.self.table.keys) c.in-To.is c.in_ok-lead.ensures.within).1

pub returns-in-To-clause-further : goal.returns-in-To-clause-further
returns-in-To-clause-further c =
    let spec = c.args.subject.now.spec.now in
    on_ok c.follow_to.result (λ further. further_on spec c.args.self.now _ c.follow_to.new.self (further_by spec c.args.self.now _ c.in_ok-lead.ensures.moves refl (λ none. none) c.requires.searched) further) c.follow_to.ensures.further

pub returns-in-To-clause-leads : goal.returns-in-To-clause-leads
returns-in-To-clause-leads c =
    let spec = c.args.subject.now.spec.now in
    let old = c.args.self.now.moves in
    let new = c.lead.new.self in
    let on = c.in_ok-lead.ensures.moves in
    let there = c.requires.there in
    let from = c.args.from in
    on_ok c.follow_to.result
    (λ leads node local node_is local_is. leads node local node_is
    (subst (IsLeadOf spec new.said.keys new.table.keys node.said from.simulator local) c.in-To.is
    (lead_here spec new.said.keys new.table.keys c.args.self.now.nodes.items c.args.cursor from c.in_ok-lead.lead there.0 node local c.in_ok-lead.ensures.lead there.1 (said_grown old.said.keys new.said.keys from.said there.0.said on.said there.2) node_is (there_grown old.table.keys new.table.keys from.number local on.table local_is))))
    c.follow_to.ensures.leads
