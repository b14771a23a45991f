use Rattle.std.proofs.Common.{◌≡◌, take}
use Rattle.room_spec.proofs.block_lines.few_inputs.Given as goal

abbrev pub invariant-loop-i : goal.invariant-loop-i
invariant-loop-i l = l.own.items ≡ take l.i l.inputs
