use Rattle.transcript.proofs.Singly.{singly, together}
use Rattle.transcript.proofs.laws.processes_are_judged_singly.Goals as goal

pub returns : goal.returns
returns c = λ spec events. (singly spec events, together spec events)
