use Rattle.level_cells.proofs.PackingLemmas.{of_same}
use Rattle.level_cells.proofs.laws.packed_of_same.Goals as goal

pub returns : goal.returns
returns c = of_same
