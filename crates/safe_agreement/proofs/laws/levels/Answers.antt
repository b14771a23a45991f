use Rattle.safe_agreement.proofs.Steps.{length_of_levels, levels_are, level_at}
use Rattle.safe_agreement.proofs.laws.levels.Goals as goal

pub returns-clause-length : goal.returns-clause-length
returns-clause-length c = λ m phases. length_of_levels m phases

pub returns-clause-at : goal.returns-clause-at
returns-clause-at c = λ m phases i below. level_at m phases i below

pub returns-clause-of_list : goal.returns-clause-of_list
returns-clause-of_list c = λ m phases levels long each. levels_are m phases levels long each
