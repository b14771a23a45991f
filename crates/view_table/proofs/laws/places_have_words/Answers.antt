use Rattle.view_table.proofs.PlaceLemmas.{within}
use Rattle.view_table.proofs.laws.places_have_words.Goals as goal

pub returns : goal.returns
returns c = within
