use Rattle.run_search.proofs.Apart.{one_index}
use Rattle.run_search.proofs.Vectors.{each_index, from_own}
use Rattle.run_search.proofs.laws.agreed_inputs_are_listed.Goals as goal

pub returns-clause-complete : goal.returns-clause-complete
returns-clause-complete c = λ spec inputs limits from. each_index spec inputs limits.shape.n_range.0 from

pub returns-clause-sound : goal.returns-clause-sound
returns-clause-sound c = λ spec index limits below. from_own spec index limits.shape.n_range.0 below

pub returns-clause-once : goal.returns-clause-once
returns-clause-once c = λ spec i j limits first second same. one_index spec i j limits.shape.n_range.0 first second same
