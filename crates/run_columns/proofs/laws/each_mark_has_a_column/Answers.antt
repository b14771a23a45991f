use Rattle.run_columns.proofs.Counting.{each_has_one}
use Rattle.run_columns.proofs.laws.each_mark_has_a_column.Goals as goal

pub returns : goal.returns
returns c = each_has_one
