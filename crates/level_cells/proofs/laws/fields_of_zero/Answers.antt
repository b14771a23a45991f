use Rattle.level_cells.proofs.FieldLemmas.{zero_field}
use Rattle.level_cells.proofs.LevelLemmas.{levels_of_zero}
use Rattle.level_cells.proofs.laws.fields_of_zero.Goals as goal

pub returns : goal.returns
returns c = record { field = λ at width. zero_field at width; levels = λ m. levels_of_zero m }
