-- What is done to a room before its schedules are searched.
use Rattle.std.specs.Prelude.{ℕ, zero, suc, List, [], ◌∷◌, if◌then◌else◌}
use Rattle.room_spec.specs.Rooms.{RoomSpec}
use Rattle.room_core.specs.Calls.{RoomState, has_crashed, opening_state, room_after_crash, room_after_settle}
use Rattle.service_core.specs.Rooms.{room_stepped}
use Rattle.room_search.specs.declared.beginning.Act.{Act}
use Rattle.room_search.specs.declared.beginning.Act.TheVariants.{Steps, Crash, Settle}

abbrev pub room_after_act : RoomState → Act → RoomState
room_after_act room (Steps simulator count) = room_stepped room simulator count
room_after_act room (Crash simulator) = room_after_crash room simulator
room_after_act room Settle = room_after_settle room

abbrev pub room_after_acts : RoomState → List Act → RoomState
room_after_acts room [] = room
room_after_acts room (act ∷ acts) = room_after_acts (room_after_act room act) acts

-- the room of this spec in which all this was done
abbrev pub begun : RoomSpec → List Act → RoomState
begun spec acts = room_after_acts (opening_state spec) acts

-- how many of the first simulators have crashed in a room
abbrev pub crashed_below : RoomState → ℕ → ℕ
crashed_below room zero = 0
crashed_below room (suc i) = if has_crashed room i then suc (crashed_below room i) else crashed_below room i

-- how many of all have
abbrev pub crash_count : RoomState → ℕ
crash_count room = crashed_below room room.spec.simulators
