use Rattle.room_steps.proofs.Words.{changes_one}
use Rattle.room_steps.proofs.laws.steps_change_one_word.Goals as goal

pub returns : goal.returns
returns c = λ room i step stepped is. changes_one room i step stepped is
