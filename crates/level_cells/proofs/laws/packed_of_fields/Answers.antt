use Rattle.level_cells.proofs.PackingLemmas.{of_fields}
use Rattle.level_cells.proofs.laws.packed_of_fields.Goals as goal

pub returns : goal.returns
returns c = of_fields
