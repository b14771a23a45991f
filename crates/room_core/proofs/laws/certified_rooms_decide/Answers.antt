use Rattle.room_core.proofs.settling.Certified.{decided_or_held, never_spent}
use Rattle.room_core.proofs.laws.certified_rooms_decide.Goals as goal

pub returns-clause-unspent : goal.returns-clause-unspent
returns-clause-unspent c = λ room fields limits are f certified ordinary j value two within resolved is. never_spent room fields limits are f certified ordinary j value two within resolved is

pub returns-clause-settled : goal.returns-clause-settled
returns-clause-settled c = λ room fields limits are f certified ordinary j two within settled. decided_or_held room fields limits are f certified ordinary j two within settled
