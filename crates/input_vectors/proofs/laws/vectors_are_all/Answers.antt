use Rattle.input_vectors.proofs.AllVectors.{all_there, none_else, vectors_count}
use Rattle.input_vectors.proofs.laws.vectors_are_all.Goals as goal

pub returns-clause-complete : goal.returns-clause-complete
returns-clause-complete c = all_there

pub returns-clause-sound : goal.returns-clause-sound
returns-clause-sound c = none_else

pub returns-clause-count : goal.returns-clause-count
returns-clause-count c = vectors_count
