use Rattle.std.proofs.Common.{◌≡◌, map}
use Rattle.std.specs.List.{range_with_len}
use Rattle.arrayvec.specs.ArrayVec.{array_vec_len}
use Rattle.room_core.specs.Calls.{decision_at}
use Rattle.room_core.proofs.room.RoomCore.decisions.Given as goal

-- what the simulators so far have decided
abbrev pub invariant-loop-i : goal.invariant-loop-i
invariant-loop-i l = record { so_far : l.decisions.items ≡ map (decision_at l.self) (range_with_len 0 l.i); count : array_vec_len l.decisions ≡ l.i }
