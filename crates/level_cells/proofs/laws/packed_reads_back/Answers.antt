use Rattle.level_cells.proofs.PackingLemmas.{reads_back}
use Rattle.level_cells.proofs.laws.packed_reads_back.Goals as goal

pub returns : goal.returns
returns c = reads_back
