use Rattle.std.proofs.Common.{◌≡◌, drop}
use Rattle.view_sample.specs.Tasks.{first_broken}
use Rattle.view_sample.proofs.task.first_broken.Given as goal

abbrev pub invariant-loop-index : goal.invariant-loop-index
invariant-loop-index l = first_broken l.spec l.outcomes ≡ first_broken l.spec (drop l.index l.outcomes)
