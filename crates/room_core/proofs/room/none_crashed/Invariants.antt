use Rattle.std.proofs.Common.{◌≡◌, false}
use Rattle.std.specs.Prelude.{replicate}
use Rattle.arrayvec.specs.ArrayVec.{array_vec_len}
use Rattle.room_core.proofs.room.none_crashed.Given as goal

abbrev pub invariant-loop : goal.invariant-loop
invariant-loop l = record { so_far : l.crashed.items ≡ replicate l.counter false; count : array_vec_len l.crashed ≡ l.counter }
