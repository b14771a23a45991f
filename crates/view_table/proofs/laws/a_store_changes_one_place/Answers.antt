use Rattle.std.proofs.lemmas.List.{length-set}
use Rattle.view_table.specs.Places.{index_of}
use Rattle.view_table.proofs.WordLemmas.{here, elsewhere}
use Rattle.view_table.proofs.laws.a_store_changes_one_place.Goals as goal

pub returns : goal.returns
returns c = record {
  here = here;
  elsewhere = elsewhere;
  count = λ sizes words place word. length-set words (index_of sizes place) word;
}
