use Rattle.room_core.proofs.points.Growing.{effects_stay}
use Rattle.room_core.proofs.laws.grows.Goals as goal

pub returns : goal.returns
returns c = λ room later fields final limits are ares same more is time point early takes. effects_stay room later fields final limits are ares same more is time point early takes
