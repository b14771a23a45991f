use Rattle.level_cells.proofs.FieldLemmas.{added_field, added_others, added_fits}
use Rattle.level_cells.proofs.laws.one_more.Goals as goal

pub returns : goal.returns
returns c = record {
  field = λ word at width room. added_field word at width room;
  others = λ word at width room. added_others word at width room;
  fits = λ word at width inside fits room. added_fits 64 word at width inside fits room;
}
