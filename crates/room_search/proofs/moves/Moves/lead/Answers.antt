use Rattle.std.proofs.Common.{sym, subst, arith}
use Rattle.room_search.specs.Moving.{AreEach, IsKnownLead, IsLead}
use Rattle.room_search.proofs.Growing.{there_before}
use Rattle.room_search.proofs.Moving.{each_inserted, next_within, said_at, said_before}
use Rattle.room_search.proofs.Sets.{longer, place_there}
use Rattle.room_search.proofs.moves.Moves.lead.Goals as goal

pub returns-in-Some-clause-lead : goal.returns-in-Some-clause-lead
returns-in-Some-clause-lead c = (c.in-Some.ensures c.args.subject.now.spec.now c.requires.moves).lead

pub returns-in-Some-clause-within : goal.returns-in-Some-clause-within
returns-in-Some-clause-within c = (c.in-Some.ensures c.args.subject.now.spec.now c.requires.moves).within

pub numbers-requires-clause-within : goal.numbers-requires-clause-within
numbers-requires-clause-within c =
    let moves = c.args.self.now in
    let local = place_there moves.table.keys c.args.from.number c.requires.number in
    let said = said_at moves.said.keys c.args.from.said c.requires.said in
    next_within c.args.subject.now.spec.now said.0 c.args.from.simulator local.0 c.in_ok-next.next (c.in_ok-next.ensures said.0 local.0 said.1 local.1)

pub returns-clause-lead : goal.returns-clause-lead
returns-clause-lead c = λ said local said_is local_is.
    let old = c.args.self.now in
    let new = c.numbers.new.self in
    let on = c.in_ok-lead.ensures.moves in
    c.in_ok-lead.ensures.lead said c.args.from.simulator local
    (c.in_ok-next.ensures said local (said_before old.said.keys new.said.keys c.args.from.said said on.said c.requires.said said_is) (there_before old.table.keys new.table.keys c.args.from.number local on.table c.requires.number local_is))

pub returns-clause-moves : goal.returns-clause-moves
returns-clause-moves c =
    let spec = c.args.subject.now.spec.now in
    let old = c.args.self.now in
    let new = c.numbers.new.self in
    let on = c.in_ok-lead.ensures.moves in
    let from = c.args.from in
    let is : IsLead spec new.said.keys new.table.keys from c.in_ok-lead.lead =
    λ said local said_is local_is. c.in_ok-lead.ensures.lead said from.simulator local
    (c.in_ok-next.ensures said local (said_before old.said.keys new.said.keys from.said said on.said c.requires.said said_is) (there_before old.table.keys new.table.keys from.number local on.table c.requires.number local_is)) in
    let said_longer = longer old.said.keys new.said.keys on.said in
    let table_longer = longer old.table.keys new.table.keys on.table in
    record {
      are = record {
        said = on.are.said;
        locals = on.are.locals;
        leads = subst (AreEach (IsKnownLead spec new.said.keys new.table.keys)) (sym c.in_ok-insert.ensures.entries)
            (each_inserted (IsKnownLead spec new.said.keys new.table.keys) new.leads.entries from c.in_ok-lead.lead (record {
              said = omega (arith, said_longer, c.requires.said);
              number = omega (arith, table_longer, c.requires.number);
              lead = is;
              within = c.in_ok-lead.ensures.numbers;
            }) on.are.leads);
      };
      table = on.table;
      said = on.said;
    }
