use Rattle.ws_history.proofs.GrowingEvents.{linearized_begins}
use Rattle.ws_history.proofs.laws.linearized_runs_grow.Goals as goal

pub returns : goal.returns
returns c = λ room later fields final limits are ares same more is p low. linearized_begins room later fields final limits are ares same more is p low
