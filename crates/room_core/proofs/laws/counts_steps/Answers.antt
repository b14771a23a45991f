use Rattle.room_core.proofs.fields.Replays.{counts}
use Rattle.room_core.proofs.laws.counts_steps.Goals as goal

pub returns : goal.returns
returns c = λ room limits one i below. counts room limits one i below
