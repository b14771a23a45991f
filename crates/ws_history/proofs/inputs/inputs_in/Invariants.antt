use Rattle.std.proofs.Common.{◌≡◌, map}
use Rattle.std.specs.List.{range_with_len}
use Rattle.arrayvec.specs.ArrayVec.{array_vec_len}
use Rattle.room_core.specs.Agreements.{input_at}
use Rattle.ws_history.specs.Readings.{read_of}
use Rattle.ws_history.proofs.inputs.inputs_in.Given as goal

abbrev pub invariant-loop-j : goal.invariant-loop-j
invariant-loop-j l = record { so_far : l.inputs.items ≡ map (input_at l.room.spec (read_of l.room)) (range_with_len 0 l.j); count : array_vec_len l.inputs ≡ l.j }
