use Rattle.room_search.proofs.explored.first_number.Goals as goal

pub returns-clause-said : goal.returns-clause-said
returns-clause-said c = (c.in_ok-said.said.items, c.in_ok-number.ensures.number, c.in_ok-said.ensures.says)
