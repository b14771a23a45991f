use Rattle.sim_memory.proofs.Rows.{raised_own, one_more_raised, raised_by_one, raised_others, raised_grows}
use Rattle.sim_memory.proofs.laws.raises.Goals as goal

pub returns-clause-own : goal.returns-clause-own
returns-clause-own c = λ m n steps after i p below within raised. raised_own m n steps after i p below within raised

pub returns-clause-by_one : goal.returns-clause-by_one
returns-clause-by_one c = λ m n steps after i p below within raised. raised_by_one m n steps after i p below within raised

pub returns-clause-others : goal.returns-clause-others
returns-clause-others c = λ m n steps after i p below within raised q inside other. raised_others m n steps after i p below within raised q inside other

pub returns-clause-grows : goal.returns-clause-grows
returns-clause-grows c = λ m n steps after i p below within raised. raised_grows m n steps after i p below within raised

pub returns-clause-one_more : goal.returns-clause-one_more
returns-clause-one_more c = λ m n steps i p. one_more_raised m n steps i p
