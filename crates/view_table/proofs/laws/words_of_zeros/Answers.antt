use Rattle.view_table.proofs.WordLemmas.{zeros}
use Rattle.view_table.proofs.laws.words_of_zeros.Goals as goal

pub returns : goal.returns
returns c = zeros
