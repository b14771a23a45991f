use Rattle.std.proofs.Common.{◌≡◌, None, replicate}
use Rattle.history_checker.proofs.row.Row.open.Given as goal

abbrev pub invariant-loop : goal.invariant-loop
invariant-loop l = l.row ≡ replicate l.counter None
