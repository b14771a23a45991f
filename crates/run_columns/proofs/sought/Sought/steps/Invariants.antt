use Rattle.std.proofs.Common.{◌≡◌, ◌++◌, drop}
use Rattle.run_columns.specs.Sought.{steps_from}
use Rattle.run_columns.proofs.sought.Sought.steps.Given as goal

abbrev pub invariant-loop-mark : goal.invariant-loop-mark
invariant-loop-mark l = l.steps.items ++ steps_from l.self l.before (drop l.mark-index l.marks) ≡ steps_from l.self 0 l.marks
