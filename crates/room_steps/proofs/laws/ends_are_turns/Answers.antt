use Rattle.room_steps.proofs.Ends.{ends_tell}
use Rattle.room_steps.proofs.laws.ends_are_turns.Goals as goal

pub returns : goal.returns
returns c = λ spec mind answer process is works. ends_tell spec mind answer process is works
