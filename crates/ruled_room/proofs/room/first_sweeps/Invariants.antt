use Rattle.std.proofs.Common.{◌≡◌, map, Some}
use Rattle.std.specs.List.{range_with_len}
use Rattle.arrayvec.specs.ArrayVec.{array_vec_len}
use Rattle.simulator.specs.Sweeps.{opening_sweep}
use Rattle.ruled_room.proofs.room.first_sweeps.Given as goal

abbrev pub invariant-loop-i : goal.invariant-loop-i
invariant-loop-i l = record { so_far : l.sweeps.items ≡ map (λ i. Some (opening_sweep l.spec i)) (range_with_len 0 l.i); count : array_vec_len l.sweeps ≡ l.i }
