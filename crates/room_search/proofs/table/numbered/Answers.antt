use Rattle.room_search.proofs.Growing.{known_more, stored_there}
use Rattle.room_search.proofs.table.numbered.Goals as goal

pub returns-in-Ok-clause-there : goal.returns-in-Ok-clause-there
returns-in-Ok-clause-there c =
    let stored = c.in_ok-index.ensures.stored in
    stored_there c.insert_full.new.self.keys c.args.local stored.0 c.in_ok-index.index c.in-Ok.number stored.1 stored.2 c.in-Ok.ensures.1

pub returns-in-Ok-clause-known : goal.returns-in-Ok-clause-known
returns-in-Ok-clause-known c = λ spec is are. known_more spec c.args.table.now.keys c.insert_full.new.self.keys c.args.local c.in_ok-index.ensures.keys is are
