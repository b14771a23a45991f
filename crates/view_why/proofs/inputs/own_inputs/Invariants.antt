use Rattle.std.proofs.Common.{◌≡◌, take}
use Rattle.view_why.proofs.inputs.own_inputs.Given as goal

-- the inputs of the simulators so far
abbrev pub invariant-loop-i : goal.invariant-loop-i
invariant-loop-i l = l.inputs.items ≡ take l.i l.spec.own
