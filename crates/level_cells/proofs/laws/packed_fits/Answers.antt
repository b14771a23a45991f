use Rattle.level_cells.proofs.PackingLemmas.{fits}
use Rattle.level_cells.proofs.laws.packed_fits.Goals as goal

pub returns : goal.returns
returns c = λ f width n fit within. fits f width n fit within
