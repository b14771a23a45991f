use Rattle.std.proofs.Common.{◌≡◌, map, take}
use Rattle.history_checker.proofs.process.first_other.Given as goal

abbrev pub invariant-loop-p : goal.invariant-loop-p
invariant-loop-p l = take l.p l.row ≡ map (λ process. process.last) (take l.p l.processes)
