use Rattle.std.proofs.Common.{◌≡◌, ◌++◌, length}
use Rattle.bgsim_console.proofs.run.next_part.Given as goal

abbrev pub invariant-loop-spec : goal.invariant-loop-spec
invariant-loop-spec l = l.initial.left ≡ l.part.items ++ l.left

abbrev pub decreases-loop-spec : goal.decreases-loop-spec
decreases-loop-spec l = length l.left
