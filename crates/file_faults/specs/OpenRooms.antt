-- Which rooms a script has opened, by nothing but its lines.
use Rattle.std.specs.Prelude.{ℕ, List, Option, Some, None, is_some, nat_lt, if◌then◌else◌}
use Rattle.std.specs.Map.{lookup}
use Rattle.std.specs.Str.{bytes_eq}
use Rattle.indexmap.specs.IndexMap.{insert_entry}
use Rattle.room_spec.specs.Rooms.{RoomSpec}
use Rattle.service_core.specs.Replies.{OpenRoom}
use Rattle.service_core.specs.declared.command.Command.{Command}
use Rattle.service_core.specs.declared.command.Command.TheVariants as commands
use Rattle.service_core.specs.declared.reply.Refusal.{Refusal}
use Rattle.service_core.specs.declared.reply.Refusal.TheVariants.{NoRoom, NoSimulator}

-- for each name that was opened the number of simulators of its room, or none if the room was closed
abbrev pub RoomsByName : Type 0
RoomsByName = List (List ℕ × Option ℕ)

abbrev pub with_room : RoomsByName → List ℕ → Option ℕ → RoomsByName
with_room rooms name room = insert_entry bytes_eq rooms name room

abbrev pub open_in : Option (Option ℕ) → Option ℕ
open_in None = None
open_in (Some room) = room

-- how many simulators the open room of a name has, or none if no room of the name is open
abbrev pub simulators_of : List ℕ → RoomsByName → Option ℕ
simulators_of name rooms = open_in (lookup (bytes_eq name) rooms)

-- ---- commands

abbrev pub absent : Option ℕ → Option Refusal
absent None = Some NoRoom
absent (Some simulators) = None

abbrev pub absent_or_without : ℕ → Option ℕ → Option Refusal
absent_or_without sim None = Some NoRoom
absent_or_without sim (Some simulators) = if nat_lt sim simulators then None else Some NoSimulator

-- why a command of a line is refused, if it is
abbrev pub refusal_of : RoomsByName → Command → Option Refusal
refusal_of rooms (commands.Begin spec) = None
refusal_of rooms (commands.Step name sim count) = absent_or_without sim (simulators_of name rooms)
refusal_of rooms (commands.Crash name sim) = absent_or_without sim (simulators_of name rooms)
refusal_of rooms (commands.Settle name) = absent (simulators_of name rooms)
refusal_of rooms (commands.Report name) = absent (simulators_of name rooms)
refusal_of rooms (commands.Close name) = absent (simulators_of name rooms)

-- the rooms after it
abbrev pub rooms_after : RoomsByName → Command → RoomsByName
rooms_after rooms (commands.Close name) = with_room rooms name None
rooms_after rooms command = rooms

-- ---- blocks

-- after a room is begun, unless one of its name is open
abbrev pub rooms_begun : RoomsByName → RoomSpec → RoomsByName
rooms_begun rooms spec = if is_some (simulators_of spec.name rooms) then rooms else with_room rooms spec.name (Some spec.simulators)

-- ---- rooms of a service

-- how many simulators a room has, if there is one
abbrev pub simulators_in : Option OpenRoom → Option ℕ
simulators_in None = None
simulators_in (Some room) = Some room.spec.simulators
