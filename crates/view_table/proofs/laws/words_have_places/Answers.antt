use Rattle.view_table.proofs.PlaceLemmas.{some_place}
use Rattle.view_table.proofs.laws.words_have_places.Goals as goal

pub returns : goal.returns
returns c = some_place
