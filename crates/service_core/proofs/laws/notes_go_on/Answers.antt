use Rattle.service_core.proofs.Noting.{notes_lead}
use Rattle.service_core.proofs.laws.notes_go_on.Goals as goal

pub returns : goal.returns
returns c = notes_lead
