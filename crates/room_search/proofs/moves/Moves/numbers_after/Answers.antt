use Rattle.room_search.proofs.Moving.{number_grown, number_within, said_within}
use Rattle.room_search.specs.Steps.{local_of}
use Rattle.room_search.proofs.moves.Moves.numbers_after.Goals as goal

pub returns-clause-lead : goal.returns-clause-lead
returns-clause-lead c = λ said i local step. record {
  stepped = c.args.after;
  step = step;
  said_is = c.in_ok-said.ensures.number;
  number_is = number_grown c.number_of_local.new.self.table.keys c.number_of.new.self.table.keys (local_of c.args.after) c.in_ok-number.number c.in_ok-said.ensures.moves.table c.in_ok-number.ensures.number;
}

pub returns-clause-numbers : goal.returns-clause-numbers
returns-clause-numbers c = (
  said_within c.number_of.new.self.said.keys c.in_ok-said.said c.args.after.said.shown.items c.in_ok-said.ensures.number,
  number_within c.number_of.new.self.table.keys (local_of c.args.after) c.in_ok-number.number (number_grown c.number_of_local.new.self.table.keys c.number_of.new.self.table.keys (local_of c.args.after) c.in_ok-number.number c.in_ok-said.ensures.moves.table c.in_ok-number.ensures.number),
)
