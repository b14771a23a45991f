use Rattle.std.proofs.Common.{◌≡◌, take}
use Rattle.view_why.proofs.inputs.process_inputs.Given as goal

-- the inputs of the processes so far
abbrev pub invariant-loop-j : goal.invariant-loop-j
invariant-loop-j l = l.inputs.items ≡ take l.j l.spec.inputs
