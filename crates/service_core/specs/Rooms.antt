-- The rooms that a service keeps, and what they stand for.
use Rattle.std.specs.Prelude.{◌≡◌, ◌≢◌, ℕ, zero, suc, false, List, [], ◌∷◌, Option, Some, None, ⊤, length, nat_le, ◌||◌, if◌then◌else◌}
use Rattle.std.specs.Str.{bytes_eq}
use Rattle.std.specs.Map.{lookup}
use Rattle.room_core.specs.declared.reply.StepReply.{StepReply}
use Rattle.room_core.specs.Calls.{RoomState, has_crashed, opening_state, room_after_crash, room_after_settle, room_after_step, step_reply}
use Rattle.room_core.specs.Reading.{AreFieldsOf}
use Rattle.room_core.specs.Rooms.{ScheduleEvent, crashes}
use Rattle.room_core.specs.Observing.{TakenStep, is_stepped, steps_of_settling, steps_of_steps}
use Rattle.ws_history.specs.Notes.{events_taken}
use Rattle.ws_history.specs.Reports.{IsTrueReport}
use Rattle.ws_history.specs.Taking.{Keeps, TakesMore}
use Rattle.ws_history.specs.declared.states.Report.{Report}
use Rattle.ws_history.specs.declared.states.Standing.{Standing}
use Rattle.service_core.specs.declared.command.Command.{Command}
use Rattle.service_core.specs.declared.command.Command.TheVariants as commands
use Rattle.service_core.specs.declared.reply.Reply.{Reply}
use Rattle.service_core.specs.declared.reply.Reply.TheVariants.{Refused, Report as ReportReply, Steps}
use Rattle.service_core.specs.declared.reply.Refusal.TheVariants.{OutOfMemory}
use Rattle.service_core.specs.declared.room.Act.{Act}
use Rattle.service_core.specs.declared.room.Act.TheVariants as acts
use Rattle.service_core.specs.Replies.{OpenRoom, Stepping, name_in, reply_in, reply_to, room_after, room_in}

-- ---- rooms by name

abbrev pub Entries : Type 0
Entries = List (List ℕ × RoomState)

abbrev pub room_at : Entries → List ℕ → Option RoomState
room_at entries name = lookup (bytes_eq name) entries

-- each room is under its own name
abbrev pub HasOwnNames : Entries → Type 0
HasOwnNames entries = (name : List ℕ) (room : RoomState) → room_at entries name ≡ Some room → room.spec.name ≡ name

-- ---- what they stand for

pub record IsOpenAs (core : RoomState) (room : OpenRoom) : Type 0 where
  pub spec : core.spec ≡ room.spec
  pub fields : AreFieldsOf core room.fields

-- a room that is open with such fields, or none
abbrev pub IsStateOf : Option RoomState → Option OpenRoom → Type 0
IsStateOf None None = ⊤
IsStateOf (Some core) (Some room) = IsOpenAs core room
IsStateOf None (Some room) = ⊥
IsStateOf (Some core) None = ⊥

-- ---- replies

abbrev pub IsRefusal : Reply → Type 0
IsRefusal (Refused refusal) = ⊤
IsRefusal reply = ⊥

-- Only where a room is made or a report is written memory is asked for, and 40 and 41 are decided before that.
abbrev pub IsWant : Option RoomState → Command → Type 0
IsWant None (commands.Begin spec) = ⊤
IsWant (Some room) (commands.Report name) = ⊤
IsWant room command = ⊥

-- a report is a true one of a room that has to be open
abbrev pub IsReportOf : Option OpenRoom → Report → Type 0
IsReportOf None report = ⊥
IsReportOf (Some room) report = IsTrueReport room.spec room.fields report

-- ---- the room itself

-- what is left of a room after calls for `count` steps of simulator i, up to the first call that finds none to take
abbrev pub room_stepped : RoomState → ℕ → ℕ → RoomState
room_stepped room i zero = room
room_stepped room i (suc count) = if is_stepped (step_reply room i) then room_stepped (room_after_step room i) i count else room_after_step room i

-- what a command leaves of the room of its name
abbrev pub room_left : RoomState → Command → Option RoomState
room_left room (commands.Begin spec) = Some room
room_left room (commands.Step name sim count) = Some (room_stepped room sim count)
room_left room (commands.Crash name sim) = Some (room_after_crash room sim)
room_left room (commands.Settle name) = Some (room_after_settle room)
room_left room (commands.Report name) = Some room
room_left room (commands.Close name) = None

abbrev pub room_begun : Command → Option RoomState
room_begun (commands.Begin spec) = Some (opening_state spec)
room_begun command = None

-- the room of a name after a command to it, or none
abbrev pub core_after : Option RoomState → Command → Option RoomState
core_after None command = room_begun command
core_after (Some room) command = room_left room command

-- ---- what a command does to it

-- the atomic steps that a command takes in the room of its name, in their order
abbrev pub steps_of : Option RoomState → Command → List TakenStep
steps_of (Some room) (commands.Step name sim count) = steps_of_steps room sim count
steps_of (Some room) (commands.Settle name) = steps_of_settling room
steps_of room command = []

-- the crash of a simulator that had not crashed
abbrev pub crash_of : RoomState → ℕ → List ScheduleEvent
crash_of room sim = if nat_le room.spec.simulators sim || has_crashed room sim then [] else crashes sim ∷ []

-- what a command adds to the schedule of the room of its name: the steps that it takes, or a crash
abbrev pub events_by : RoomState → Command → List ScheduleEvent
events_by room (commands.Crash name sim) = crash_of room sim
events_by room command = events_taken (steps_of (Some room) command)

-- ---- one command

-- What a command makes of the rooms and answers. All but an allocation that fails depends on the room of its name alone.
pub record Applies (before : Entries) (command : Command) (reply : Reply) (after : Entries) : Type 0 where
  pub answer : reply ≢ Refused OutOfMemory → (room : Option OpenRoom) → IsStateOf (room_at before (name_in command)) room
      → (reply ≡ reply_to room command) × IsStateOf (room_at after (name_in command)) (room_after room command)
  pub others : (name : List ℕ) → bytes_eq name (name_in command) ≡ false → room_at after name ≡ room_at before name
  pub report : (report : Report) → reply ≡ ReportReply report → (room : Option OpenRoom) → IsStateOf (room_at before (name_in command)) room → IsReportOf room report
  pub want : reply ≡ Refused OutOfMemory → IsWant (room_at before (name_in command)) command
  pub refused : IsRefusal reply → (name : List ℕ) → room_at after name ≡ room_at before name
  -- the room itself, with its words and what its simulators have in mind
  pub room : reply ≢ Refused OutOfMemory → room_at after (name_in command) ≡ core_after (room_at before (name_in command)) command
  -- as many steps were taken as the reply says
  pub taken : (number : ℕ) (last : StepReply) → reply ≡ Steps number last → length (steps_of (room_at before (name_in command)) command) ≡ number

-- A report of the room of this name has these states and crashed simulators, and the events of its history were taken.
pub record IsReported (rooms : Entries) (name : List ℕ) (standing : Standing) (before after : Keeps) : Type 0 where
  pub report : Report
  pub applies : Applies rooms (commands.Report name) (ReportReply report) rooms
  pub states : standing.states ≡ report.states
  pub crashed : standing.crashed ≡ report.crashed
  pub history : TakesMore before report.history after

-- ---- inside the crate

-- what a command does to an open room, as a command
abbrev pub command_for : List ℕ → Act → Command
command_for name (acts.Step sim count) = commands.Step name sim count
command_for name (acts.Crash sim) = commands.Crash name sim
command_for name acts.Settle = commands.Settle name

-- the reply of an open room to a command, and the room after it
abbrev pub Answers : OpenRoom → Command → Reply → RoomState → Type 0
Answers room command reply core = (reply ≡ reply_in room command) × IsOpenAs core (room_in room command)

pub record IsSteppedTo (stepping : Stepping) (reply : ℕ × StepReply) (room : RoomState) : Type 0 where
  pub taken : reply.0 ≡ stepping.taken
  pub last : reply.1 ≡ stepping.last
  pub fields : AreFieldsOf room stepping.fields
