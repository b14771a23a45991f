use Rattle.std.proofs.Common.{◌≡◌, replicate}
use Rattle.room_spec.proofs.block_lines.same_inputs.Given as goal

abbrev pub invariant-loop : goal.invariant-loop
invariant-loop l = l.inputs.items ≡ replicate l.counter l.input
