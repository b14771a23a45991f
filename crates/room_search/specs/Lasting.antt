-- Rooms in which no simulator has used up its turns.
use Rattle.std.specs.Prelude.{◌≡◌, ℕ, ◌<◌, false, List}
use Rattle.room_spec.specs.Rooms.{RoomSpec}
use Rattle.room_core.specs.Calls.{RoomState, has_crashed, sweep_at}
use Rattle.room_sample.specs.Chances.{random_of}
use Rattle.room_sample.specs.Samples.{IsSettledFrom}
use Rattle.room_sample.specs.declared.sampling.Plan.{Plan}
use Rattle.room_sample.specs.declared.stretch.Stretch.{Stretch}

-- each simulator that hasn't crashed has a turn left
abbrev pub HaveTurnsLeft : RoomState → Type 0
HaveTurnsLeft room = (i : ℕ) → i < room.spec.simulators → has_crashed room i ≡ false → (sweep_at room i).mind.turns < room.spec.turns

-- so it is in the room to which a plan's schedule of this number leads, once it has settled
abbrev pub LeavesTurns : RoomSpec → Plan → ℕ → Type 0
LeavesTurns spec plan number = (schedule : List Stretch) (room : RoomState) → IsSettledFrom spec plan.crashes (random_of plan.seed number) schedule room → HaveTurnsLeft room
