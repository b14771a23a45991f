use Rattle.std.proofs.Common.{◌≡◌, map}
use Rattle.std.specs.List.{range_with_len}
use Rattle.arrayvec.specs.ArrayVec.{array_vec_len}
use Rattle.room_spec.specs.Rooms.{fuse_of}
use Rattle.scheduler.proofs.opening.fuses_of.Given as goal

abbrev pub invariant-loop-i : goal.invariant-loop-i
invariant-loop-i l = record { so_far : l.fuses.items ≡ map (fuse_of l.spec.fuses) (range_with_len 0 l.i); count : array_vec_len l.fuses ≡ l.i }
