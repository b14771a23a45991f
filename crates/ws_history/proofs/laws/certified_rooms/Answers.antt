use Rattle.ws_history.proofs.Certified.{more_than_f, most_are_decided, not_spent}
use Rattle.ws_history.proofs.laws.certified_rooms.Goals as goal

pub returns-clause-unspent : goal.returns-clause-unspent
returns-clause-unspent c = λ room fields limits are f certified which two j within. not_spent room fields limits are f certified which two j within

pub returns-clause-settled : goal.returns-clause-settled
returns-clause-settled c = λ room fields limits are f certified which two each. most_are_decided room fields limits are f certified which two each

pub returns-clause-most : goal.returns-clause-most
returns-clause-most c = λ room fields limits are f certified each. more_than_f room fields limits are f certified each
