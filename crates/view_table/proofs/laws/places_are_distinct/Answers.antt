use Rattle.view_table.proofs.PlaceLemmas.{distinct}
use Rattle.view_table.proofs.laws.places_are_distinct.Goals as goal

pub returns : goal.returns
returns c = distinct
