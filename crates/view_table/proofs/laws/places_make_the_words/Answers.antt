use Rattle.view_table.proofs.WordLemmas.{same_words}
use Rattle.view_table.proofs.laws.places_make_the_words.Goals as goal

pub returns : goal.returns
returns c = same_words
