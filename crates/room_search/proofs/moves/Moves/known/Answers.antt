use Rattle.std.proofs.Common.{sym}
use Rattle.room_search.specs.contracts.moves.SituationPartialEq.TheImpl as tests
use Rattle.room_search.specs.Moving.{IsKnownLead}
use Rattle.room_search.proofs.Moving.{each_found, same_situation}
use Rattle.room_search.proofs.moves.Moves.known.Goals as goal

pub returns-in-Some : goal.returns-in-Some
returns-in-Some c = λ spec are.
    let moves = c.args.self.now in
    each_found (IsKnownLead spec moves.said.keys moves.table.keys) (tests.ghosts.eq c.args.from) c.args.from (same_situation c.args.from) moves.leads.entries c.in-Some.lead.now (sym c.in-Some.ensures.value) are.leads
