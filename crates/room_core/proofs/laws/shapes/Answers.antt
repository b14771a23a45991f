use Rattle.room_core.proofs.fields.Replays.{shapes}
use Rattle.room_core.proofs.laws.shapes.Goals as goal

pub returns : goal.returns
returns c = λ room limits one. shapes room limits one
