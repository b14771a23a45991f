use Rattle.safe_agreement.proofs.Replays.{same_least_two, same_again, same_of_same}
use Rattle.safe_agreement.proofs.laws.same_twos.Goals as goal

pub returns-clause-least : goal.returns-clause-least
returns-clause-least c = λ m before after same. same_least_two m before after same

pub returns-clause-on : goal.returns-clause-on
returns-clause-on c = λ m one two three first second. same_again m one two three first second

pub returns-clause-of_same : goal.returns-clause-of_same
returns-clause-of_same c = λ m phases others same. same_of_same m phases others same
