use Rattle.view_outcomes.proofs.SearchedInputs.{all_searched, only_agreed}
use Rattle.view_outcomes.proofs.laws.agreed_inputs_are_searched.Goals as goal

pub returns-clause-complete : goal.returns-clause-complete
returns-clause-complete c = all_searched c.vectors_are_all.ensures.complete

pub returns-clause-sound : goal.returns-clause-sound
returns-clause-sound c = only_agreed c.vectors_are_all.ensures.sound
