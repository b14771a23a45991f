use Rattle.std.proofs.Common.{subst}
use Rattle.room_search.specs.Moving.{IsWithinLead}
use Rattle.room_search.proofs.Sets.{numbers_grown, numbers_put}
use Rattle.room_search.proofs.closing.go_alone.Goals as goal

pub returns-in_default-clause-numbers : goal.returns-in_default-clause-numbers
returns-in_default-clause-numbers c = numbers_grown c.args.moves.now.table.keys c.lead.new.self.table.keys c.args.set.now.items c.in_ok-lead.ensures.moves.table c.requires.numbers

pub returns-in_ok-put-clause-numbers : goal.returns-in_ok-put-clause-numbers
returns-in_ok-put-clause-numbers c =
    let new = c.lead.new.self in
    let within = subst (IsWithinLead new.said.keys new.table.keys) c.in-To.is c.in_ok-lead.ensures.within in
    numbers_put new.table.keys c.args.set.now.items c.put.new.set.items c.in-To.number c.in_ok-put.ensures.added within.1 (numbers_grown c.args.moves.now.table.keys new.table.keys c.args.set.now.items c.in_ok-lead.ensures.moves.table c.requires.numbers)

pub returns-else-after-from-clause-numbers : goal.returns-else-after-from-clause-numbers
returns-else-after-from-clause-numbers c = numbers_grown c.args.moves.now.table.keys c.lead.new.self.table.keys c.args.set.now.items c.in_ok-lead.ensures.moves.table c.requires.numbers
