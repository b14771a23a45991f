use Rattle.std.proofs.Common.{take}
use Rattle.history_checker.specs.Reasons.{IsLastWrite}
use Rattle.history_checker.proofs.reason.last_write.Given as goal

abbrev pub invariant-loop-at : goal.invariant-loop-at
invariant-loop-at l = IsLastWrite (take l.at l.events) l.process l.last
