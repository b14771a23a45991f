use Rattle.std.proofs.Common.{◌≡◌, map}
use Rattle.std.specs.List.{range_with_len}
use Rattle.arrayvec.specs.ArrayVec.{array_vec_len}
use Rattle.view_grade.specs.Inputs.{input_at}
use Rattle.view_grade.proofs.inputs.inputs_of.Given as goal

-- the inputs of the processes so far
abbrev pub invariant-loop-process : goal.invariant-loop-process
invariant-loop-process l = record { so_far : l.inputs.items ≡ map (input_at l.room) (range_with_len 0 l.process); count : array_vec_len l.inputs ≡ l.process }
