-- The inputs that the processes of a reduction have, under its reports.
use Rattle.std.specs.Prelude.{ℕ, Bool, true, false, List, [], ◌∷◌, ◌++◌, map, Option, Some, None, codes, decimal, if◌then◌else◌}
use Rattle.std.specs.List.{concat, range_with_len}
use Rattle.room_spec.specs.Rooms.{is_reduction, processes}
use Rattle.room_core.specs.Calls.{RoomState, input_of}
use Rattle.service_core.specs.declared.reply.Reply.{Reply}
use Rattle.service_core.specs.declared.reply.Reply.TheVariants.{Report}

-- a process, and what it has
unfoldable pub process_words : ℕ → List ℕ → List ℕ
process_words j what = codes "    process" ++ ((32 ∷ decimal j) ++ what)

-- the input of a process, once a simulator has it
abbrev pub input_line : ℕ → Option ℕ → List ℕ
input_line j None = process_words j (codes " has no input yet\n")
input_line j (Some value) = process_words j (codes " has the input") ++ ((32 ∷ decimal value) ++ codes "\n")

-- the input of each process, as far as it is agreed on
abbrev pub known_inputs : RoomState → List (Option ℕ)
known_inputs room = map (input_of room) (range_with_len 0 (processes room.spec))

-- a line for each process
abbrev pub input_lines : RoomState → List ℕ
input_lines room = concat (map (λ j. input_line j (input_of room j)) (range_with_len 0 (processes room.spec)))

-- An ordinary room gives each process its input, so there is nothing to say.
abbrev pub inputs_in : RoomState → List ℕ
inputs_in room = if is_reduction room.spec then input_lines room else []

abbrev pub inputs_at : Option RoomState → List ℕ
inputs_at None = []
inputs_at (Some room) = inputs_in room

-- as text. In JSON the report has them.
abbrev pub inputs_shown : Bool → Option RoomState → List ℕ
inputs_shown false room = inputs_at room
inputs_shown true room = []

-- under a report, and under no other reply
abbrev pub inputs_under : Reply → Bool → Option RoomState → List ℕ
inputs_under (Report report) json room = inputs_shown json room
inputs_under reply json room = []
