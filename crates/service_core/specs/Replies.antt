-- The replies to the commands of one name, written over one room's fields: which other rooms there are, and what they are
-- asked, has no place in it.
use Rattle.std.specs.Prelude.{ℕ, zero, suc, List, [], ◌∷◌, Option, Some, None, Result, Ok, Err, nat_lt, if◌then◌else◌, codes}
use Rattle.std.specs.List.{filter}
use Rattle.std.specs.Str.{bytes_eq}
use Rattle.room_spec.specs.Rooms.{RoomSpec}
use Rattle.room_core.specs.declared.reply.StepReply.{StepReply}
use Rattle.room_core.specs.declared.reply.StepReply.TheVariants as steps
use Rattle.room_core.specs.Fields.{Fields, opening_fields, step_reply_in, fields_after_step, crash_reply_in, fields_after_crash, fields_after_settle}
use Rattle.room_core.specs.Observing.{is_stepped}
use Rattle.ws_history.specs.Reports.{report_of}
use Rattle.service_core.specs.declared.command.Command.{Command}
use Rattle.service_core.specs.declared.command.Command.TheVariants as commands
use Rattle.service_core.specs.declared.reply.Reply.{Reply}
use Rattle.service_core.specs.declared.reply.Reply.TheVariants.{Begun, Steps, Crash, Settled, Report, Closed, Refused}
use Rattle.service_core.specs.declared.reply.Refusal.{Refusal}
use Rattle.service_core.specs.declared.reply.Refusal.TheVariants.{NoRoom, NameTaken, NoSimulator, OutOfMemory}

-- the numbers of the refusals, and what they say
abbrev pub refusal_code : Refusal → ℕ
refusal_code NoRoom = 40
refusal_code NameTaken = 41
refusal_code NoSimulator = 42
refusal_code OutOfMemory = 8

unfoldable pub refusal_sentence : Refusal → List ℕ
refusal_sentence NoRoom = codes "no room has this name"
refusal_sentence NameTaken = codes "a room has this name already"
refusal_sentence NoSimulator = codes "the room has no simulator of this number"
refusal_sentence OutOfMemory = codes "out of memory"

-- ---- steps

-- how many steps a simulator took, the last answer to it, and the fields after that
pub record Stepping : Type 0 where
  pub taken : ℕ
  pub last : StepReply
  pub fields : Fields

abbrev pub one_more : Stepping → Stepping
one_more stepping = record { taken = suc stepping.taken; last = stepping.last; fields = stepping.fields }

-- Simulator i takes single steps until it has taken `count`, or one is not taken.
abbrev pub stepping : RoomSpec → Fields → ℕ → ℕ → Stepping
stepping spec fields i zero = record { taken = 0; last = steps.Stepped; fields = fields }
stepping spec fields i (suc count) =
    if is_stepped (step_reply_in spec fields i) then one_more (stepping spec (fields_after_step spec fields i) i count)
    else record { taken = 0; last = step_reply_in spec fields i; fields = fields_after_step spec fields i }

-- ---- one command

-- a room that is open: what it was given when it was made, and its fields now
pub record OpenRoom : Type 0 where
  pub spec : RoomSpec
  pub fields : Fields

abbrev pub opened : RoomSpec → OpenRoom
opened spec = record { spec = spec; fields = opening_fields spec }

abbrev pub with_fields : OpenRoom → Fields → OpenRoom
with_fields room fields = record { spec = room.spec; fields = fields }

-- the room that a command is for
abbrev pub name_in : Command → List ℕ
name_in (commands.Begin spec) = spec.name
name_in (commands.Step name sim count) = name
name_in (commands.Crash name sim) = name
name_in (commands.Settle name) = name
name_in (commands.Report name) = name
name_in (commands.Close name) = name

abbrev pub stepped_reply : Stepping → Reply
stepped_reply stepping = Steps stepping.taken stepping.last

-- the reply that says how many steps were taken and the last answer, or why none was asked for
abbrev pub reply_to_steps : Result (ℕ × StepReply) Refusal → Reply
reply_to_steps (Ok (taken, last)) = Steps taken last
reply_to_steps (Err refusal) = Refused refusal

-- what an open room answers
abbrev pub reply_in : OpenRoom → Command → Reply
reply_in room (commands.Begin spec) = Refused NameTaken
reply_in room (commands.Step name sim count) =
    if nat_lt sim room.spec.simulators then stepped_reply (stepping room.spec room.fields sim count) else Refused NoSimulator
reply_in room (commands.Crash name sim) =
    if nat_lt sim room.spec.simulators then Crash (crash_reply_in room.spec room.fields sim) else Refused NoSimulator
reply_in room (commands.Settle name) = Settled
reply_in room (commands.Report name) = Report (report_of room.spec room.fields)
reply_in room (commands.Close name) = Closed

-- and what it is afterwards, where it stays open
abbrev pub room_in : OpenRoom → Command → OpenRoom
room_in room (commands.Step name sim count) =
    if nat_lt sim room.spec.simulators then with_fields room (stepping room.spec room.fields sim count).fields else room
room_in room (commands.Crash name sim) =
    if nat_lt sim room.spec.simulators then with_fields room (fields_after_crash room.spec room.fields sim) else room
room_in room (commands.Settle name) = with_fields room (fields_after_settle room.spec room.fields)
room_in room command = room

-- if there is no room of the name
abbrev pub reply_to_none : Command → Reply
reply_to_none (commands.Begin spec) = Begun
reply_to_none command = Refused NoRoom

abbrev pub room_after_none : Command → Option OpenRoom
room_after_none (commands.Begin spec) = Some (opened spec)
room_after_none command = None

abbrev pub reply_to : Option OpenRoom → Command → Reply
reply_to None command = reply_to_none command
reply_to (Some room) command = reply_in room command

abbrev pub room_after_open : OpenRoom → Command → Option OpenRoom
room_after_open room (commands.Close name) = None
room_after_open room command = Some (room_in room command)

abbrev pub room_after : Option OpenRoom → Command → Option OpenRoom
room_after None command = room_after_none command
room_after (Some room) command = room_after_open room command

-- ---- lists of commands

-- the replies to commands of one name, from a room or none on
abbrev pub replies_from : Option OpenRoom → List Command → List Reply
replies_from room [] = []
replies_from room (command ∷ commands) = reply_to room command ∷ replies_from (room_after room command) commands

abbrev pub room_after_all : Option OpenRoom → List Command → Option OpenRoom
room_after_all room [] = room
room_after_all room (command ∷ commands) = room_after_all (room_after room command) commands

-- the commands of one name, in order
abbrev pub part : List ℕ → List Command → List Command
part name commands = filter (λ command. bytes_eq name (name_in command)) commands
