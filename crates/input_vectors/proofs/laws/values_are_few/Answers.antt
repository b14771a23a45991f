use Rattle.input_vectors.proofs.ReadingValues.{values_are}
use Rattle.input_vectors.proofs.laws.values_are_few.Goals as goal

pub returns : goal.returns
returns c = values_are
