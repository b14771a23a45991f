-- certified_reductions_decide
use Rattle.room_core.proofs.settling.CertifiedReductions.{decided_or_blocked, most_decide, unspent}
use Rattle.room_core.proofs.laws.certified_reductions_decide.Goals as goal

pub returns-clause-unspent : goal.returns-clause-unspent
returns-clause-unspent c = λ room fields limits are kind f certified few j value two within resolved is. unspent room fields limits are kind f certified few j value two within resolved is

pub returns-clause-settled : goal.returns-clause-settled
returns-clause-settled c = λ room fields limits are kind f certified few j two within settled. decided_or_blocked room fields limits are kind f certified few j two within settled

pub returns-clause-most : goal.returns-clause-most
returns-clause-most c = λ room fields limits are kind f certified few two settled. most_decide room fields limits are kind f certified few two settled
