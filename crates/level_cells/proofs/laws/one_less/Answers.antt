use Rattle.level_cells.proofs.FieldLemmas.{taken_field, taken_others, taken_whole}
use Rattle.level_cells.proofs.laws.one_less.Goals as goal

pub returns : goal.returns
returns c = record {
  field = λ word at width some. taken_field word at width some;
  others = λ word at width some. taken_others word at width some;
  whole = λ word at width some. taken_whole word at width some;
}
