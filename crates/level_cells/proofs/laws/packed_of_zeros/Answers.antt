use Rattle.level_cells.proofs.PackingLemmas.{of_zeros}
use Rattle.level_cells.proofs.laws.packed_of_zeros.Goals as goal

pub returns : goal.returns
returns c = of_zeros
