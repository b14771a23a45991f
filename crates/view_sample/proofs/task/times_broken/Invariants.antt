use Rattle.std.proofs.Common.{◌≡◌, take}
use Rattle.view_sample.specs.Tasks.{times_broken}
use Rattle.view_sample.proofs.task.times_broken.Given as goal

abbrev pub invariant-loop-index : goal.invariant-loop-index
invariant-loop-index l = l.broken ≡ times_broken l.spec (take l.index l.outcomes)
