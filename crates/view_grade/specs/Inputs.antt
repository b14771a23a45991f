-- Which inputs the processes of a room have.
use Rattle.std.specs.Prelude.{ℕ, List, [], map, Option, None, Some, slice_get, if◌then◌else◌}
use Rattle.std.specs.List.{range_with_len}
use Rattle.room_spec.specs.Rooms.{is_reduction, processes}
use Rattle.room_core.specs.Calls.{RoomState, input_of}

-- the input of a process: in a reduction the one that was agreed on, once a simulator has it; else the block's
abbrev pub input_at : RoomState → ℕ → Option ℕ
input_at room process = if is_reduction room.spec then input_of room process else slice_get room.spec.inputs process

-- of each process, by their numbers
abbrev pub inputs_of : RoomState → List (Option ℕ)
inputs_of room = map (input_at room) (range_with_len 0 (processes room.spec))

-- if there is a room
abbrev pub inputs_at : Option RoomState → List (Option ℕ)
inputs_at None = []
inputs_at (Some room) = inputs_of room
