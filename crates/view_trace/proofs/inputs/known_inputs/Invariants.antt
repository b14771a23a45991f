use Rattle.std.proofs.Common.{◌≡◌, map}
use Rattle.std.specs.List.{range_with_len}
use Rattle.arrayvec.specs.ArrayVec.{array_vec_len}
use Rattle.room_core.specs.Calls.{input_of}
use Rattle.view_trace.proofs.inputs.known_inputs.Given as goal

-- those of the processes so far
abbrev pub invariant-loop-process : goal.invariant-loop-process
invariant-loop-process l = record { so_far : l.inputs.items ≡ map (input_of l.room) (range_with_len 0 l.process); count : array_vec_len l.inputs ≡ l.process }
