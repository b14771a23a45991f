-- The transcript of a script's rooms, with the events of each in the order in which they took effect.
use Rattle.std.specs.Prelude.{◌≡◌, ⊤, ℕ, ◌<◌, Bool, true, false, List, [], ◌∷◌, ◌++◌, length, map, Option, Some, None, Result, Ok, codes}
use Rattle.std.specs.declared.alloc.AllocError.{AllocError}
use Rattle.std.specs.List.{flat_map}
use Rattle.std.specs.Map.{keys_of, lookup}
use Rattle.std.specs.Str.{bytes_eq}
use Rattle.room_spec.specs.Rooms.{RoomSpec, processes}
use Rattle.ws_history.specs.Inputs.{IsRoomRun}
use Rattle.transcript.specs.declared.event.Event.{Event}
use Rattle.transcript.specs.Runs.{IsRun}
use Rattle.room_core.specs.Agreements.{run_spec}
use Rattle.room_core.specs.Calls.{RoomState, configuration_of}
use Rattle.room_core.specs.Fields.{Fields}
use Rattle.room_core.specs.Reading.{AreFieldsOf}
use Rattle.room_core.specs.Rooms.{IsLegal, ScheduleEvent, opening, replay}
use Rattle.room_core.specs.Observing.{TakenStep}
use Rattle.ws_history.specs.Linearizations.{AreEventsAtSteps, LackAtMostASnapshot, events_of}
use Rattle.ws_history.specs.Notes.{AreNotesOf, IsNoted, Notes}
use Rattle.ws_history.specs.Sources.{history_of}
use Rattle.room_files.specs.declared.outcome.Outcome.{Outcome}
use Rattle.service_core.specs.declared.command.Command.{Command}
use Rattle.service_core.specs.declared.command.Command.TheVariants as commands
use Rattle.service_core.specs.declared.reply.Reply.{Reply}
use Rattle.service_core.specs.declared.reply.Reply.TheVariants.{Begun}
use Rattle.service_core.specs.Replies.{name_in}
use Rattle.service_core.specs.Rooms.{Entries, room_at, steps_of}
use Rattle.script_play.specs.Following.{AreWatched}
use Rattle.script_play.specs.Play.{AreDone, AreReplies, Done, Faulty, IsBlockOf, Replied, Unread, commands_of, ending_of, replies_in}
use Rattle.room_files.specs.BlockLists.{whole_block}
use Rattle.room_files.specs.Kinds.{block_of}
use Rattle.room_files.specs.declared.kinds.Kinds.TheVariants.{All, Ordinary}
use Rattle.report_text.specs.ReportTexts.{event_lines}
use Rattle.script_play.specs.Script.{Entry as Asked, script_says}
use Rattle.view_transcript.specs.Courses.{Course, course_of, names_by, names_in, with_name}

-- ---- one room

-- This schedule leads to the room, and these are the events that take effect at its steps, in their order.
pub record AreInOrder (room : RoomState) (schedule : List ScheduleEvent) (events : List Event) : Type 0 where
  pub legal : IsLegal (opening room.spec) schedule
  pub leads : replay (opening room.spec) schedule ≡ configuration_of room
  -- each with the number of the step at which it takes effect
  pub timed : List (ℕ × Event)
  pub at_steps : AreEventsAtSteps room.spec schedule timed
  pub events_are : events ≡ map (λ event. event.1) timed
  -- they are a run of the room's processes, in a reduction from the inputs that were agreed on,
  pub run : (fields : Fields) → AreFieldsOf room fields → IsRun (run_spec room.spec fields) events
  -- which are the simulators' own,
  pub own : IsRoomRun room.spec events
  -- in which each does what it does in the room's history, and at most a last snapshot more
  pub same : (fields : Fields) → AreFieldsOf room fields → (p : ℕ) → p < processes room.spec → LackAtMostASnapshot p (events_of p (history_of room.spec fields)) (events_of p events)

-- a room as it is written
pub record Written : Type 0 where
  pub block : List ℕ
  pub events : List Event

-- these bytes are a block that says this room, and nothing more, if only blocks of ordinary rooms are read, as in a transcript
abbrev pub IsOrdinaryBlock : RoomSpec → List ℕ → Type 0
IsOrdinaryBlock spec block = block_of Ordinary block ≡ Ok (spec, length block)

-- A room that a script opened is written: a block that says the ordinary room of which its events are a run, and these events. An ordinary room
-- is that room itself; of a reduction it is the one whose processes have the inputs that were agreed on.
pub record IsWrittenOf (course : Course) (written : Written) : Type 0 where
  pub fields : Fields
  pub are : AreFieldsOf course.room fields
  pub block : IsOrdinaryBlock (run_spec course.room.spec fields) written.block
  pub events : AreInOrder course.room course.schedule written.events

abbrev pub IsWrittenIf : Option Course → Option Written → Type 0
IsWrittenIf None None = ⊤
IsWrittenIf (Some course) (Some written) = IsWrittenOf course written
IsWrittenIf None (Some written) = ⊥
IsWrittenIf (Some course) None = ⊥

-- ---- a script

-- each with its name
abbrev pub WrittenRooms : Type 0
WrittenRooms = List (List ℕ × Written)

-- all blocks, the line `events`, and the events of one room after those of the other
abbrev pub transcript_text : WrittenRooms → List ℕ
transcript_text rooms = flat_map (λ room. whole_block room.1.block) rooms ++ (codes "events\n" ++ flat_map (λ room. event_lines room.0 room.1.events) rooms)

-- the last room of each name that was opened, in the order in which the names were
pub record AreRoomsOf (all : List Done) (rooms : WrittenRooms) : Type 0 where
  pub names : keys_of rooms ≡ names_in all
  pub each : (name : List ℕ) → IsWrittenIf (course_of name all) (lookup (bytes_eq name) rooms)

-- the transcript of a script's rooms, and the end that goes with it
pub record IsTranscribed (input : List ℕ) (ending : Result Outcome AllocError) (output : List ℕ) : Type 0 where
  pub entries : List Asked
  pub asked : script_says input ≡ Ok entries
  pub all : List Done
  pub each_entry : AreDone All entries all
  pub replies : AreReplies (commands_of all) (replies_in all)
  pub rooms : WrittenRooms
  pub are_rooms : AreRoomsOf all rooms
  pub output_is : output ≡ transcript_text rooms
  pub ending_is : ending ≡ ending_of all

-- ---- inside the crate

-- what is kept of a room: its block, notes of its steps, and its events if it was closed
pub record KeptRoom : Type 0 where
  pub block : List ℕ
  -- none while a command to it is executed
  pub notes : Option Notes
  pub events : Option (List Event)

abbrev pub KeptRooms : Type 0
KeptRooms = List (List ℕ × KeptRoom)

abbrev pub kept_at : KeptRooms → List ℕ → Option KeptRoom
kept_at kept name = lookup (bytes_eq name) kept

-- these are the events of a room, by the notes of its steps
abbrev pub AreByNotes : RoomState → Option Notes → List Event → Type 0
AreByNotes room None events = ⊤
AreByNotes room (Some notes) events = (schedule : List ScheduleEvent) → AreNotesOf (configuration_of room) schedule notes → AreInOrder room schedule events

-- this is the block of the run that the events of an open room are, if the other is the room's own
abbrev pub IsRunBlock : RoomState → List ℕ → List ℕ → Type 0
IsRunBlock room own block = IsBlockOf room.spec own → (fields : Fields) → AreFieldsOf room fields → IsOrdinaryBlock (run_spec room.spec fields) block

-- what is known of an open room by its block and its notes, and of a closed one, of which the block of its run and its events are kept
abbrev pub IsKnown : Bool → Course → Option RoomState → List ℕ → Option Notes → Option (List Event) → Type 0
IsKnown true course room block None None = ⊥
IsKnown true course room block (Some notes) None = (room ≡ Some course.room) × IsBlockOf course.room.spec block × AreNotesOf (configuration_of course.room) course.schedule notes
IsKnown false course room block notes (Some events) = (room ≡ None) × IsWrittenOf course (record { block = block; events = events })
IsKnown true course room block notes (Some events) = ⊥
IsKnown false course room block notes None = ⊥

abbrev pub IsKept : Course → Option RoomState → KeptRoom → Type 0
IsKept course room kept = IsKnown course.is_open course room kept.block kept.notes kept.events

abbrev pub IsFollowed : Option Course → Option RoomState → Option KeptRoom → Type 0
IsFollowed None None None = ⊤
IsFollowed (Some course) room (Some kept) = IsKept course room kept
IsFollowed None (Some room) kept = ⊥
IsFollowed None None (Some kept) = ⊥
IsFollowed (Some course) room None = ⊥

-- a room of which no simulator has taken a step
pub record IsFresh (spec : RoomSpec) (kept : KeptRoom) : Type 0 where
  pub block : IsBlockOf spec kept.block
  pub known : Notes
  pub notes_are : kept.notes ≡ Some known
  pub notes : AreNotesOf (opening spec) [] known
  pub events : kept.events ≡ None

-- of a room that took these steps what is kept has seen them
pub record HasSeen (steps : List TakenStep) (before after : KeptRoom) : Type 0 where
  pub block : after.block ≡ before.block
  pub notes : AreWatched IsNoted before.notes steps after.notes
  pub events : after.events ≡ before.events

abbrev pub HasSeenIf : List TakenStep → Option KeptRoom → Option KeptRoom → Type 0
HasSeenIf steps None after = after ≡ None
HasSeenIf steps (Some before) None = ⊥
HasSeenIf steps (Some before) (Some after) = HasSeen steps before after

-- of a room that is closed the block of its run and its events are kept
abbrev pub HasEnded : Option RoomState → KeptRoom → KeptRoom → Type 0
HasEnded None before after = after ≡ before
HasEnded (Some room) before after =
    (written : Written) × AreByNotes room before.notes written.events × IsRunBlock room before.block written.block × (after ≡ record before { block = written.block; events = Some written.events })

abbrev pub HasEndedIf : Option RoomState → Option KeptRoom → Option KeptRoom → Type 0
HasEndedIf room None after = after ≡ None
HasEndedIf room (Some before) None = ⊥
HasEndedIf room (Some before) (Some after) = HasEnded room before after

abbrev pub HasBegun : RoomSpec → Reply → Option KeptRoom → Option KeptRoom → Type 0
HasBegun spec Begun before after = (kept : KeptRoom) × IsFresh spec kept × (after ≡ Some kept)
HasBegun spec reply before after = after ≡ before

-- what a command makes of what is kept of the room of its name
abbrev pub Keeps : Entries → Command → Reply → Option KeptRoom → Option KeptRoom → Type 0
Keeps rooms (commands.Begin spec) reply before after = HasBegun spec reply before after
Keeps rooms (commands.Close name) reply before after = HasEndedIf (room_at rooms name) before after
Keeps rooms (commands.Step name sim count) reply before after = HasSeenIf (steps_of (room_at rooms name) (commands.Step name sim count)) before after
Keeps rooms (commands.Crash name sim) reply before after = HasSeenIf (steps_of (room_at rooms name) (commands.Crash name sim)) before after
Keeps rooms (commands.Settle name) reply before after = HasSeenIf (steps_of (room_at rooms name) (commands.Settle name)) before after
Keeps rooms (commands.Report name) reply before after = HasSeenIf (steps_of (room_at rooms name) (commands.Report name)) before after

-- a command was done
pub record IsNotedOn (rooms : Entries) (kept : KeptRooms) (command : Command) (reply : Reply) (kept_after : KeptRooms) : Type 0 where
  pub own : Keeps rooms command reply (kept_at kept (name_in command)) (kept_at kept_after (name_in command))
  pub others : (name : List ℕ) → bytes_eq name (name_in command) ≡ false → kept_at kept_after name ≡ kept_at kept name
  pub names : keys_of kept_after ≡ names_by command reply (keys_of kept)

-- one thing more was done to these rooms, which led to those
abbrev pub IsNotedBy : KeptRooms → Entries → Done → Entries → KeptRooms → Type 0
IsNotedBy before rooms (Replied command reply) left now = IsNotedOn rooms before command reply now
IsNotedBy before rooms (Faulty line fault) left now = now ≡ before
IsNotedBy before rooms (Unread line) left now = now ≡ before

-- all of this was done, and leaves these rooms, of which this is kept
pub record HasNoted (all : List Done) (rooms : Entries) (kept : KeptRooms) : Type 0 where
  pub names : keys_of kept ≡ names_in all
  pub each : (name : List ℕ) → IsFollowed (course_of name all) (room_at rooms name) (kept_at kept name)

-- ---- before a command, and after it

-- these notes are put in the place of those that are kept of a room, if something is, and those are given
abbrev pub IsSwapped : Option Notes → Option KeptRoom → Option KeptRoom → Option Notes → Type 0
IsSwapped notes None after given = (after ≡ None) × (given ≡ None)
IsSwapped notes (Some before) after given = (after ≡ Some (record before { notes = notes })) × (given ≡ before.notes)

pub record IsOpened (name : List ℕ) (room : KeptRoom) (before after : KeptRooms) : Type 0 where
  pub here : kept_at after name ≡ Some room
  pub others : (other : List ℕ) → bytes_eq other name ≡ false → kept_at after other ≡ kept_at before other
  pub names : keys_of after ≡ with_name (keys_of before) name

-- the room of this name was opened, if it was
abbrev pub HasOpened : Option (List ℕ × KeptRoom) → Reply → KeptRooms → KeptRooms → Type 0
HasOpened (Some (name, room)) Begun before after = IsOpened name room before after
HasOpened next reply before after = after ≡ before

pub record IsReadyAt (own : Option KeptRoom → Option KeptRoom → Type 0) (name : List ℕ) (before after : KeptRooms) : Type 0 where
  pub here : own (kept_at before name) (kept_at after name)
  pub others : (other : List ℕ) → bytes_eq other name ≡ false → kept_at after other ≡ kept_at before other
  pub names : keys_of after ≡ keys_of before

-- What is kept is made ready for a command to these rooms: of a room that is to be opened there is something to keep, the events of one that is to
-- be closed are kept, and the notes of all others are lent.
abbrev pub IsReadyFor : Entries → KeptRooms → Command → KeptRooms → Option (List ℕ × KeptRoom) → Option Notes → Type 0
IsReadyFor rooms before (commands.Begin spec) after next notes = (after ≡ before) × (kept : KeptRoom) × IsFresh spec kept × (next ≡ Some (spec.name, kept))
IsReadyFor rooms before (commands.Close name) after next notes = IsReadyAt (HasEndedIf (room_at rooms name)) name before after
IsReadyFor rooms before command after next notes = IsReadyAt (λ old new. IsSwapped None old new notes) (name_in command) before after

-- ---- the text

-- the block of a room: that which is kept, or if it is open that of its run
abbrev pub HasBlock : Option RoomState → List ℕ → Option (List Event) → List ℕ → Type 0
HasBlock room own (Some known) block = block ≡ own
HasBlock (Some core) own None block = IsRunBlock core own block
HasBlock None own None block = block ≡ own

-- the events of a room: those that are kept, or by its notes if it is open
abbrev pub HasEvents : Option RoomState → Option Notes → Option (List Event) → List Event → Type 0
HasEvents room notes (Some known) events = events ≡ known
HasEvents (Some core) notes None events = AreByNotes core notes events
HasEvents None notes None events = events ≡ []

pub record IsWrittenFrom (rooms : Entries) (kept : List ℕ × KeptRoom) (written : List ℕ × Written) : Type 0 where
  pub name : written.0 ≡ kept.0
  pub block : HasBlock (room_at rooms kept.0) kept.1.block kept.1.events written.1.block
  pub events : HasEvents (room_at rooms kept.0) kept.1.notes kept.1.events written.1.events

-- its block, and its events
abbrev pub IsBlockFrom : Entries → List ℕ × KeptRoom → List ℕ → Type 0
IsBlockFrom rooms kept block = HasBlock (room_at rooms kept.0) kept.1.block kept.1.events block

abbrev pub AreEventsFrom : Entries → List ℕ × KeptRoom → List ℕ × List Event → Type 0
AreEventsFrom rooms kept events = (events.0 ≡ kept.0) × HasEvents (room_at rooms kept.0) kept.1.notes kept.1.events events.1

-- one of each of the rooms that are kept, in their order
abbrev pub AreEach : {A : Type 0} → (List ℕ × KeptRoom → A → Type 0) → KeptRooms → List A → Type 0
AreEach Is [] [] = ⊤
AreEach Is (kept ∷ others) (one ∷ rest) = Is kept one × AreEach Is others rest
AreEach Is [] (one ∷ rest) = ⊥
AreEach Is (kept ∷ others) [] = ⊥

abbrev pub AreWrittenFrom : Entries → KeptRooms → WrittenRooms → Type 0
AreWrittenFrom rooms kept written = AreEach (IsWrittenFrom rooms) kept written
