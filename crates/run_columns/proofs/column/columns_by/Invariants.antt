use Rattle.std.proofs.Common.{◌≡◌, ◌++◌, drop}
use Rattle.run_columns.specs.Columns.{columns_from}
use Rattle.run_columns.proofs.column.columns_by.Given as goal

abbrev pub invariant-loop-mark : goal.invariant-loop-mark
invariant-loop-mark l = l.columns.items ++ columns_from l.scale l.column (drop l.mark-index l.rest) ≡ columns_from l.scale l.initial.column l.rest
