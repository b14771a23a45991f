-- What the commands of a script make of the room of a name, and by which steps and crashes.
use Rattle.std.specs.Prelude.{ℕ, Bool, true, false, not, ◌&&◌, List, [], ◌∷◌, ◌++◌, Option, Some, None, if◌then◌else◌}
use Rattle.std.specs.List.{fold, list_any}
use Rattle.std.specs.Str.{bytes_eq}
use Rattle.room_spec.specs.Rooms.{RoomSpec}
use Rattle.room_core.specs.Calls.{RoomState, opening_state}
use Rattle.room_core.specs.Rooms.{ScheduleEvent}
use Rattle.service_core.specs.declared.command.Command.{Command}
use Rattle.service_core.specs.declared.command.Command.TheVariants.{Begin}
use Rattle.service_core.specs.declared.reply.Reply.{Reply}
use Rattle.service_core.specs.declared.reply.Reply.TheVariants.{Begun}
use Rattle.service_core.specs.Replies.{name_in}
use Rattle.service_core.specs.Rooms.{events_by, room_left}
use Rattle.service_core.specs.Runs.{is_want}
use Rattle.script_play.specs.Play.{Done, Faulty, Replied, Unread}

-- a room as it is now, or as it was when it was closed, and the steps and crashes that led to it
pub record Course : Type 0 where
  pub room : RoomState
  pub schedule : List ScheduleEvent
  pub is_open : Bool

abbrev pub begun : RoomSpec → Course
begun spec = record { room = opening_state spec; schedule = []; is_open = true }

-- a course, after a command has left this of the room, or closed it
abbrev pub left_as : Course → List ScheduleEvent → Option RoomState → Course
left_as course events None = record { room = course.room; schedule = course.schedule; is_open = false }
left_as course events (Some room) = record { room = room; schedule = course.schedule ++ events; is_open = true }

abbrev pub under : Course → Command → Course
under course command = left_as course (events_by course.room command) (room_left course.room command)

-- the name of a room that was closed is free
abbrev pub after_closed : Course → Command → Course
after_closed course (Begin spec) = begun spec
after_closed course command = course

abbrev pub course_after : Option Course → Command → Option Course
course_after None (Begin spec) = Some (begun spec)
course_after None command = None
course_after (Some course) command = Some (if course.is_open then under course command else after_closed course command)

-- one thing more was done, to whatever room; a command for which an allocation failed leaves all rooms as they are
abbrev pub followed : List ℕ → Option Course → Done → Option Course
followed name course (Replied command reply) = if bytes_eq name (name_in command) && not (is_want reply) then course_after course command else course
followed name course (Faulty line fault) = course
followed name course (Unread line) = course

-- the last room of a name
abbrev pub course_of : List ℕ → List Done → Option Course
course_of name all = fold (followed name) None all

-- ---- names

abbrev pub with_name : List (List ℕ) → List ℕ → List (List ℕ)
with_name names name = if list_any (bytes_eq name) names then names else names ++ name ∷ []

abbrev pub names_by : Command → Reply → List (List ℕ) → List (List ℕ)
names_by (Begin spec) Begun names = with_name names spec.name
names_by command reply names = names

abbrev pub names_with : List (List ℕ) → Done → List (List ℕ)
names_with names (Replied command reply) = names_by command reply names
names_with names (Faulty line fault) = names
names_with names (Unread line) = names

-- the names of the rooms that were opened, each once, in the order in which each was first
abbrev pub names_in : List Done → List (List ℕ)
names_in all = fold names_with [] all
