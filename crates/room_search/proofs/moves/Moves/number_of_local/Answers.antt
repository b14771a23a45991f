use Rattle.room_search.proofs.Moving.{each_grown}
use Rattle.room_search.proofs.Sets.{grows_not}
use Rattle.room_search.proofs.moves.Moves.number_of_local.Goals as goal

pub returns-clause-moves : goal.returns-clause-moves
returns-clause-moves c =
    let spec = c.args.subject.now.spec.now in
    let moves = c.args.self.now in
    let grown = c.in_ok-number.ensures.grown in
    record {
      are = record {
        said = c.requires.moves.said;
        locals = c.in_ok-number.ensures.known spec c.requires.local c.requires.moves.locals;
        leads = each_grown spec moves.said.keys moves.said.keys moves.table.keys c.numbered.new.table.keys (grows_not moves.said.keys) grown moves.leads.entries c.requires.moves.leads;
      };
      table = grown;
      said = grows_not moves.said.keys;
    }
