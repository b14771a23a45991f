use Rattle.std.proofs.Common.{◌++◌, length}
use Rattle.bgsim_console.proofs.RunTexts.{IsRunUpTo}
use Rattle.bgsim_console.proofs.run.run_in_parts.Given as goal

abbrev pub invariant-loop-alloc : goal.invariant-loop-alloc
invariant-loop-alloc g l = IsRunUpTo l.fn.left (l.opened ++ l.left) l.reports.text

abbrev pub decreases-loop-alloc : goal.decreases-loop-alloc
decreases-loop-alloc g l = length l.left
