-- What is said of a script: what `play` answers, and notes under each reply.
use Rattle.std.specs.Prelude.{◌≡◌, ⊤, ℕ, Bool, true, false, List, [], ◌∷◌, ◌++◌, Option, Some, None, Result, Ok, if◌then◌else◌}
use Rattle.std.specs.declared.alloc.AllocError.{AllocError}
use Rattle.std.specs.List.{flat_map}
use Rattle.room_spec.specs.Faults.{sentence_of}
use Rattle.room_spec.specs.declared.fault.SpecFault.{SpecFault}
use Rattle.room_core.specs.Calls.{RoomState}
use Rattle.room_core.specs.Observing.{AreSeen, TakenStep}
use Rattle.service_core.specs.declared.command.Command.{Command}
use Rattle.service_core.specs.declared.reply.Reply.{Reply}
use Rattle.service_core.specs.declared.reply.Reply.TheVariants.{Begun, Steps, Crash, Settled, Report, Closed, Refused}
use Rattle.service_core.specs.declared.reply.Refusal.{Refusal as Reason}
use Rattle.service_core.specs.declared.reply.Refusal.TheVariants.{NoRoom, NameTaken, NoSimulator, OutOfMemory}
use Rattle.room_files.specs.declared.fault.BlockFault.TheVariants.{Spec}
use Rattle.service_core.specs.Replies.{name_in, refusal_sentence}
use Rattle.service_core.specs.Rooms.{Entries, room_at, steps_of}
use Rattle.script_play.specs.Following.{AreFollowed, decisions_at}
use Rattle.script_play.specs.Script.{Entry, script_says}
use Rattle.room_files.specs.declared.outcome.Outcome.{Outcome}
use Rattle.room_files.specs.declared.kinds.Kinds.TheVariants.{All}
use Rattle.script_play.specs.Play.{AreDone, AreReplies, Done, Faulty, IsPlayText, Replied, Unread, commands_of, done_text, ending_of, replies_in}
use Rattle.script_play.specs.ReplyTexts.{reply_text}
use Rattle.json_lines.specs.Lines.{json_line}
use Rattle.step_words.specs.Reported.{IsReported, Reporting, nothing_reported}
use Rattle.fault_text.specs.Lines.{indented}
use Rattle.fault_text.specs.UnknownNames.{MetNames, is_met, met, more_note, refused_unknown_names}
use Rattle.fault_text.specs.declared.refusals.RefusedBlock.{RefusedBlock}
use Rattle.view_trace.specs.Decisions.{decisions_shown, decisions_under}
use Rattle.view_trace.specs.Inputs.{inputs_shown, inputs_under}
use Rattle.view_trace.specs.Json.{done_data, reply_data}
use Rattle.view_trace.specs.declared.missed.TheConstants.{MORE_COMMANDS}

-- ---- notes

-- these steps, one after the other, as text or as JSON
pub record AreLinesOf (json : Bool) (steps : List TakenStep) (lines : List ℕ) : Type 0 where
  pub reporting : Reporting
  pub reported : AreSeen IsReported (nothing_reported json) steps reporting
  pub whole : reporting.ran_out ≡ false
  pub lines_are : lines ≡ reporting.lines

-- What is known of rooms that don't exist: the blocks that were refused so far, and the names of commands that no room has.
pub record MissedRooms : Type 0 where
  pub refused : List RefusedBlock
  pub unknown_names : MetNames

-- after a command with this name was refused
abbrev pub missed_refused : MissedRooms → List ℕ → Reason → MissedRooms
missed_refused missed name NoRoom = record { refused = missed.refused; unknown_names = met name missed.unknown_names }
missed_refused missed name NameTaken = missed
missed_refused missed name NoSimulator = missed
missed_refused missed name OutOfMemory = missed

-- after a reply to a command with this name
abbrev pub missed_by : MissedRooms → List ℕ → Reply → MissedRooms
missed_by missed name (Refused refusal) = missed_refused missed name refusal
missed_by missed name Begun = missed
missed_by missed name (Steps taken last) = missed
missed_by missed name (Crash answer) = missed
missed_by missed name Settled = missed
missed_by missed name (Report report) = missed
missed_by missed name Closed = missed

abbrev pub missed_after : MissedRooms → Done → MissedRooms
missed_after missed (Replied command reply) = missed_by missed (name_in command) reply
missed_after missed (Faulty line fault) = record { refused = missed.refused ++ record { line = line; fault = Spec fault } ∷ []; unknown_names = missed.unknown_names }
missed_after missed (Unread line) = missed

-- under the first command with a name that no room has: that there is none
abbrev pub unknown_name_notes : MissedRooms → List ℕ → List ℕ
unknown_name_notes missed name = if is_met name missed.unknown_names then [] else indented (refusal_sentence NoRoom)

-- at the end of a script: which of its blocks of such names are refused, and how many more commands have one of them
abbrev pub end_notes : List ℕ → MissedRooms → List ℕ
end_notes script missed = refused_unknown_names script missed.refused missed.unknown_names.names ++ more_note MORE_COMMANDS.now missed.unknown_names

-- why a command with this name was refused
abbrev pub refusal_notes : MissedRooms → List ℕ → Reason → List ℕ
refusal_notes missed name NoRoom = unknown_name_notes missed name
refusal_notes missed name NameTaken = indented (refusal_sentence NameTaken)
refusal_notes missed name NoSimulator = indented (refusal_sentence NoSimulator)
refusal_notes missed name OutOfMemory = indented (refusal_sentence OutOfMemory)

-- under the reply to a command that was refused: why, in text. As JSON the reply has it.
abbrev pub refusal_shown : Bool → MissedRooms → List ℕ → Reason → List ℕ
refusal_shown false missed name reason = refusal_notes missed name reason
refusal_shown true missed name reason = []

-- and under a block that was refused
abbrev pub block_shown : Bool → List ℕ → List ℕ
block_shown false why = indented why
block_shown true why = []

-- what is said after these notes: under a report the inputs and the decisions in the room as it is left
abbrev pub left_under : Reply → Bool → Option RoomState → List ℕ
left_under reply json left = inputs_under reply json left ++ decisions_under reply json (decisions_at left)

-- under a report: the steps of its command, of which there are none; which input each process has, if the room is a reduction; and what each
-- simulator has decided, in the room as it is left
abbrev pub AreReportNotes : Bool → Option RoomState → Option RoomState → Command → List ℕ → Type 0
AreReportNotes json room left command notes = (lines : List ℕ) × AreLinesOf json (steps_of room command) lines × (notes ≡ lines ++ (inputs_shown json left ++ decisions_shown json (decisions_at left)))

-- under a reply: why the command was refused, or the steps that it took in the room of its name as it was then
abbrev pub AreNotesOn : Bool → MissedRooms → Option RoomState → Option RoomState → Command → Reply → List ℕ → Type 0
AreNotesOn json missed room left command (Refused refusal) notes = notes ≡ refusal_shown json missed (name_in command) refusal
AreNotesOn json missed room left command (Report report) notes = AreReportNotes json room left command notes
AreNotesOn json missed room left command reply notes = AreLinesOf json (steps_of room command) notes

-- What was done to these rooms, and led to those, has such notes.
abbrev pub AreNotesFor : Bool → MissedRooms → Entries → Done → Entries → List ℕ → Type 0
AreNotesFor json missed rooms (Replied command reply) after notes = AreNotesOn json missed (room_at rooms (name_in command)) (room_at after (name_in command)) command reply notes
AreNotesFor json missed rooms (Faulty line fault) after notes = notes ≡ block_shown json (sentence_of fault)
AreNotesFor json missed rooms (Unread line) after notes = notes ≡ block_shown json (refusal_sentence OutOfMemory)

-- ---- a whole script

-- what `play` writes of what was done, which left these rooms, or an object of JSON
abbrev pub done_shown : Bool → Entries → Done → List ℕ
done_shown false left done = done_text done
done_shown true left done = json_line (done_data left done)

-- what is said so far, and what is known of rooms that don't exist
pub record Traced : Type 0 where
  pub missed : MissedRooms
  pub output : List ℕ

abbrev pub nothing_traced : Traced
nothing_traced = record { missed = record { refused = []; unknown_names = record { names = []; more = 0 } }; output = [] }

-- one thing more was done to these rooms, which led to those: it is said, with its notes
pub record IsTraced (json : Bool) (before : Traced) (rooms : Entries) (done : Done) (left : Entries) (now : Traced) : Type 0 where
  pub notes : List ℕ
  pub are_notes : AreNotesFor json before.missed rooms done left notes
  pub missed : now.missed ≡ missed_after before.missed done
  pub output : now.output ≡ before.output ++ (done_shown json left done ++ notes)

-- what is said at the end of a script, in text
abbrev pub end_shown : Bool → List ℕ → MissedRooms → List ℕ
end_shown false script missed = end_notes script missed
end_shown true script missed = []

-- What is said of a script's entries, as text or as JSON, and the end that goes with it.
pub record IsTrace (json : Bool) (script : List ℕ) (entries : List Entry) (ending : Result Outcome AllocError) (output : List ℕ) : Type 0 where
  pub all : List Done
  pub each_entry : AreDone All entries all
  pub replies : AreReplies (commands_of all) (replies_in all)
  pub ending_is : ending ≡ ending_of all
  pub rooms : Entries
  pub traced : Traced
  pub followed : AreFollowed (IsTraced json) [] nothing_traced all rooms traced
  pub output_is : output ≡ traced.output ++ end_shown json script traced.missed
  -- this was done, and in text it is, without the notes, what `play` writes, with its ending
  pub played : IsPlayText All entries ending (flat_map done_text all)

abbrev pub IsTraceIn : Bool → List ℕ → Result Outcome AllocError → List ℕ → Type 0
IsTraceIn json input ending output = (entries : List Entry) × (script_says input ≡ Ok entries) × IsTrace json input entries ending output

-- as text
abbrev pub IsTraceFor : List ℕ → Result Outcome AllocError → List ℕ → Type 0
IsTraceFor input ending output = IsTraceIn false input ending output

-- as JSON, an object a line
abbrev pub IsJsonTraceFor : List ℕ → Result Outcome AllocError → List ℕ → Type 0
IsJsonTraceFor input ending output = IsTraceIn true input ending output

-- ---- inside the crate

-- the lines of the steps that were seen, if something saw them
abbrev pub lines_in : Option Reporting → List ℕ
lines_in None = []
lines_in (Some reporting) = reporting.lines

-- no allocation failed for one
abbrev pub IsWhole : Option Reporting → Type 0
IsWhole None = ⊤
IsWhole (Some reporting) = reporting.ran_out ≡ false

-- what is noted under a reply by an observer of the steps
abbrev pub notes_after : Bool → MissedRooms → List ℕ → Reply → Option Reporting → List ℕ
notes_after json missed name (Refused refusal) reporting = refusal_shown json missed name refusal
notes_after json missed name reply reporting = lines_in reporting

-- what is written of a reply to a command that left the room so
abbrev pub answer_text : Bool → Option RoomState → List ℕ → ℕ → Reply → List ℕ
answer_text false room name sim reply = reply_text name sim reply
answer_text true room name sim reply = json_line (reply_data room name sim reply)

-- what is written of a block that was refused, and of one that was not read
abbrev pub fault_written : Bool → ℕ → SpecFault → List ℕ
fault_written json line fault = done_shown json [] (Faulty line fault) ++ block_shown json (sentence_of fault)

abbrev pub out_of_memory_written : Bool → ℕ → List ℕ
out_of_memory_written json line = done_shown json [] (Unread line) ++ block_shown json (refusal_sentence OutOfMemory)
