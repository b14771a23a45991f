use Rattle.fault_text.proofs.Spotted.{and_more, form_said, refusal_said}
use Rattle.fault_text.proofs.laws.faults_are_said_at_their_spots.Goals as goal

pub returns : goal.returns
returns c = record { forms = form_said; blocks = refusal_said; more = and_more }
