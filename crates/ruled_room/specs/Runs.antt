-- What the simulators do along a list of atomic steps and crashes, and the rooms to which one leads along which they do just this.
use Rattle.std.specs.Prelude.{◌≡◌, ℕ, List, [], ◌∷◌, slice_index_or, ◌==◌, if◌then◌else◌}
use Rattle.simulator.specs.Moves.{answer_of, move_of}
use Rattle.room_core.specs.Rooms.{Configuration, IsOneInterleaving, ScheduleEvent, crashed_by, crashes, mind_at, opening, stepped, steps}
use Rattle.ruled_room.specs.declared.rule.Operation.{Operation}

-- the operation that simulator i's mind wants next, with what the room's words answer
abbrev pub operation_in : Configuration → ℕ → Operation
operation_in room i = record { done = move_of room.spec (mind_at room i); answer = answer_of (move_of room.spec (mind_at room i)) room.words }

-- what simulator i does along a list, in order
abbrev pub operations_along : Configuration → List ScheduleEvent → ℕ → List Operation
operations_along room [] i = []
operations_along room (steps j ∷ schedule) i = if j == i then operation_in room j ∷ operations_along (stepped room j) schedule i else operations_along (stepped room j) schedule i
operations_along room (crashes j ∷ schedule) i = operations_along (crashed_by room j) schedule i

-- One interleaving of just these operations of the simulators, each with its answer, and of crashes after which the simulator takes no step,
-- leads from the opening room to this one.
pub record IsInterleavingOf (room : Configuration) (operations : List (List Operation)) : Type 0 where
  pub one : IsOneInterleaving room
  pub did : (i : ℕ) → operations_along (opening room.spec) one.schedule i ≡ slice_index_or operations i []
