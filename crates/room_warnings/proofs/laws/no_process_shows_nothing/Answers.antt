use Rattle.room_warnings.proofs.Certain.{cell_shows_nothing, seen_shows_nothing}
use Rattle.room_warnings.proofs.laws.no_process_shows_nothing.Goals as goal

pub returns : goal.returns
returns c = record { cell = cell_shows_nothing; seen = seen_shows_nothing }
