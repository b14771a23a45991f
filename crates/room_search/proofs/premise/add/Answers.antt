use Rattle.room_search.proofs.Alike.{premise_cases}
use Rattle.room_search.proofs.premise.add.Goals as goal

pub returns : goal.returns
returns c = λ other there. premise_cases c.args.premises.now.keys c.insert.new.self.keys c.args.premise other c.in_ok-insert.ensures.keys there
