use Rattle.room_search.proofs.Going.{shrinks, shrinks_after}
use Rattle.room_search.proofs.laws.open_outcomes_shrink.Goals as goal

pub returns-clause-rooms : goal.returns-clause-rooms
returns-clause-rooms c = shrinks

pub returns-clause-acts : goal.returns-clause-acts
returns-clause-acts c = shrinks_after
