use Rattle.std.proofs.Common.{◌≡◌, take}
use Rattle.simulator.proofs.goal.add_inputs.Given as goal

abbrev pub invariant-loop-process : goal.invariant-loop-process
invariant-loop-process l = l.inputs.items ≡ take l.process l.spec.inputs
