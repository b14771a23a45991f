-- The results of a script.
use Rattle.std.specs.Prelude.{◌≡◌, ⊤, ℕ, Bool, true, false, not, List, [], ◌∷◌, length, Option, Some, None, Result, Ok, Err, alloc_error, if◌then◌else◌, codes}
use Rattle.std.specs.declared.alloc.AllocError.{AllocError}
use Rattle.std.specs.List.{flat_map, list_any}
use Rattle.room_spec.specs.Rooms.{RoomSpec}
use Rattle.room_spec.specs.declared.fault.SpecFault.{SpecFault}
use Rattle.service_core.specs.declared.command.Command.{Command}
use Rattle.service_core.specs.declared.command.Command.TheVariants.{Begin}
use Rattle.service_core.specs.declared.reply.Reply.{Reply}
use Rattle.service_core.specs.declared.reply.Reply.TheVariants.{Refused}
use Rattle.service_core.specs.declared.reply.Refusal.{Refusal}
use Rattle.service_core.specs.declared.reply.Refusal.TheVariants.{NoRoom, NameTaken, NoSimulator, OutOfMemory}
use Rattle.service_core.specs.Replies.{part, replies_from, room_after_all}
use Rattle.service_core.specs.Rooms.{Entries, IsStateOf, room_at}
use Rattle.service_core.specs.Runs.{AreTrueReports, AreWants, granted, is_want, replies_of, without_wants}
use Rattle.room_files.specs.Blocks.{fault_text, refused_line}
use Rattle.room_files.specs.Kinds.{LacksMemoryOf, block_of}
use Rattle.room_files.specs.declared.kinds.Kinds.{Kinds}
use Rattle.room_files.specs.declared.kinds.Kinds.TheVariants.{All}
use Rattle.room_files.specs.Verdicts.{outcome_if}
use Rattle.script_play.specs.Script.{Entry, Ask, Open, script_says}
use Rattle.room_files.specs.declared.outcome.Outcome.{Outcome}
use Rattle.room_files.specs.declared.outcome.Outcome.TheVariants.{SomeRefused}
use Rattle.script_play.specs.ReplyTexts.{reply_to_command}

-- ---- replies to commands

-- Each name's replies rest on nothing but its own commands. Those for which an allocation failed are as if they had not been; they begin
-- a room under a free name, or ask for an open one's report. Each report is a true one.
pub record AreReplies (commands : List Command) (replies : List Reply) : Type 0 where
  pub count : length replies ≡ length commands
  pub alone : (name : List ℕ) → without_wants (replies_of name commands replies) ≡ replies_from None (part name (granted commands replies))
  pub wants : AreWants commands replies
  pub reports : AreTrueReports commands replies

-- ---- what comes of a script

-- what came of an entry: the reply to a command; or a block was refused, whose first line has this number, for a fault or
-- because an allocation failed
pub data Done : Type 0 where
  Replied : Command → Reply → Done
  Faulty : ℕ → SpecFault → Done
  Unread : ℕ → Done

-- where blocks of these kinds are read
abbrev pub IsDone : Kinds → Entry → Done → Type 0
IsDone kinds (Ask command) (Replied asked reply) = asked ≡ command
IsDone kinds (Ask command) (Faulty line fault) = ⊥
IsDone kinds (Ask command) (Unread line) = ⊥
IsDone kinds (Open number block) (Replied asked reply) = (spec : RoomSpec) × (len : ℕ) × (block_of kinds block ≡ Ok (spec, len)) × (asked ≡ Begin spec)
IsDone kinds (Open number block) (Faulty line fault) = (line ≡ number) × (block_of kinds block ≡ Err fault)
IsDone kinds (Open number block) (Unread line) = (line ≡ number) × LacksMemoryOf kinds block

-- what came of each entry, in order
abbrev pub AreDone : Kinds → List Entry → List Done → Type 0
AreDone kinds [] [] = ⊤
AreDone kinds (entry ∷ entries) (done ∷ all) = IsDone kinds entry done × AreDone kinds entries all
AreDone kinds [] (done ∷ all) = ⊥
AreDone kinds (entry ∷ entries) [] = ⊥

abbrev pub commands_in : Done → List Command
commands_in (Replied command reply) = command ∷ []
commands_in (Faulty line fault) = []
commands_in (Unread line) = []

abbrev pub reply_of : Done → List Reply
reply_of (Replied command reply) = reply ∷ []
reply_of (Faulty line fault) = []
reply_of (Unread line) = []

abbrev pub commands_of : List Done → List Command
commands_of all = flat_map commands_in all

abbrev pub replies_in : List Done → List Reply
replies_in all = flat_map reply_of all

-- ---- the text

abbrev pub done_text : Done → List ℕ
done_text (Replied command reply) = reply_to_command command reply
done_text (Faulty line fault) = refused_line line (fault_text fault)
done_text (Unread line) = refused_line line (codes "8")

abbrev pub is_refusal : Reply → Bool
is_refusal (Refused refusal) = true
is_refusal reply = false

abbrev pub is_refused : Done → Bool
is_refused (Replied command reply) = is_refusal reply
is_refused (Faulty line fault) = true
is_refused (Unread line) = true

-- because an allocation failed
abbrev pub ran_out_of_memory : Done → Bool
ran_out_of_memory (Replied command reply) = is_want reply
ran_out_of_memory (Faulty line fault) = false
ran_out_of_memory (Unread line) = true

-- the end if nothing more went wrong: an allocation that failed comes before all other refusals
abbrev pub ending_if : Bool → Bool → Result Outcome AllocError
ending_if ran_out refused = if ran_out then Err alloc_error else Ok (outcome_if (not refused))

abbrev pub ending_of : List Done → Result Outcome AllocError
ending_of all = ending_if (list_any ran_out_of_memory all) (list_any is_refused all)

-- The text that a script's entries lead to, line by line, and the end that goes with it.
pub record IsPlayText (kinds : Kinds) (entries : List Entry) (ending : Result Outcome AllocError) (output : List ℕ) : Type 0 where
  pub all : List Done
  pub each_entry : AreDone kinds entries all
  pub replies : AreReplies (commands_of all) (replies_in all)
  pub output_is : output ≡ flat_map done_text all
  pub ending_is : ending ≡ ending_of all

-- the text for an input that has no fault
abbrev pub IsPlayFor : Kinds → List ℕ → Result Outcome AllocError → List ℕ → Type 0
IsPlayFor kinds input ending output = (entries : List Entry) × (script_says input ≡ Ok entries) × IsPlayText kinds entries ending output

-- ---- the one that executes the commands

-- these bytes are a block that says this room, and nothing more
abbrev pub IsBlockOf : RoomSpec → List ℕ → Type 0
IsBlockOf spec block = block_of All block ≡ Ok (spec, length block)

abbrev pub OpensNone : Command → Type 0
OpensNone (Begin spec) = ⊥
OpensNone command = ⊤

-- why a command was refused, if it was
abbrev pub refusal_in : Reply → Option Refusal
refusal_in (Refused refusal) = Some refusal
refusal_in reply = None

-- ---- while it runs

-- what a service that has been given these commands has become
pub record HasRun (commands : List Command) (replies : List Reply) (entries : Entries) : Type 0 where
  pub answers : AreReplies commands replies
  pub rooms : (name : List ℕ) → IsStateOf (room_at entries name) (room_after_all None (part name (granted commands replies)))

-- the end with one refusal more, which is not an allocation that failed
abbrev pub ending_at_refusal : Result Outcome AllocError → Result Outcome AllocError
ending_at_refusal (Ok outcome) = Ok SomeRefused
ending_at_refusal (Err fault) = Err fault

-- the end with one entry more, which was refused or not, because an allocation failed or not
abbrev pub ending_with : Bool → Bool → Result Outcome AllocError → Result Outcome AllocError
ending_with ran_out refused ending = if ran_out then Err alloc_error else if refused then ending_at_refusal ending else ending

-- a refusal because an allocation failed
abbrev pub is_memory_refusal : Option Refusal → Bool
is_memory_refusal None = false
is_memory_refusal (Some NoRoom) = false
is_memory_refusal (Some NameTaken) = false
is_memory_refusal (Some NoSimulator) = false
is_memory_refusal (Some OutOfMemory) = true
