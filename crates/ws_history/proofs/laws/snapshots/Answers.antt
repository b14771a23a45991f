use Rattle.ws_history.proofs.Counts.{snaps_are}
use Rattle.ws_history.proofs.laws.snapshots.Goals as goal

pub returns : goal.returns
returns c = λ spec src p. snaps_are spec src p
