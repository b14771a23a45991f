use Rattle.level_cells.proofs.PackingLemmas.{with_one_more}
use Rattle.level_cells.proofs.laws.packed_with_one_more.Goals as goal

pub returns : goal.returns
returns c = with_one_more
