use Rattle.std.proofs.Common.{ℕ, ◌<◌, [], get_or}
use Rattle.history_checker.specs.declared.process.Process.{Process}
use Rattle.history_checker.specs.Processes.{IsAt}
use Rattle.history_checker.proofs.history.open.Given as goal

abbrev pub invariant-loop-p : goal.invariant-loop-p
invariant-loop-p l = (q : ℕ) (d : Process) → q < l.p → IsAt l.spec [] q (get_or l.processes q d)
