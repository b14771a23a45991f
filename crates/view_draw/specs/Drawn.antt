-- What is drawn of a script's rooms.
use Rattle.std.specs.Prelude.{◌≡◌, ⊤, ℕ, zero, suc, Bool, true, false, ◌&&◌, List, [], ◌∷◌, ◌++◌, map, Option, Some, None, Result, Ok, is_none, position, if◌then◌else◌}
use Rattle.std.specs.declared.alloc.AllocError.{AllocError}
use Rattle.std.specs.List.{AllByRecursion}
use Rattle.std.specs.Map.{lookup}
use Rattle.std.specs.Str.{bytes_eq}
use Rattle.room_core.specs.declared.reply.CrashReply.TheVariants.{Crashed}
use Rattle.room_spec.specs.Rooms.{IsWithinLimits, RoomSpec}
use Rattle.ws_history.specs.declared.states.Report.{Report as ReportData}
use Rattle.service_core.specs.declared.command.Command.{Command}
use Rattle.service_core.specs.declared.command.Command.TheVariants as commands
use Rattle.service_core.specs.declared.reply.Reply.{Reply}
use Rattle.service_core.specs.declared.reply.Reply.TheVariants as replies
use Rattle.service_core.specs.declared.reply.Refusal.{Refusal}
use Rattle.service_core.specs.Replies.{OpenRoom, name_in, reply_to}
use Rattle.service_core.specs.Rooms.{Entries, IsReportOf, IsStateOf, room_at, steps_of}
use Rattle.script_play.specs.Following.{AreFollowed}
use Rattle.script_play.specs.Script.{script_says}
use Rattle.script_play.specs.Script.{Entry as Asked}
use Rattle.room_files.specs.declared.outcome.Outcome.{Outcome}
use Rattle.room_files.specs.declared.kinds.Kinds.TheVariants.{All}
use Rattle.script_play.specs.Play.{AreDone, Done, IsBlockOf, Replied, Faulty, Unread, ending_of, refusal_in}
use Rattle.simulator_lanes.specs.Panels.{IsHeadOf, Panel}
use Rattle.picture_shapes.specs.Svg.{svg_of}
use Rattle.run_picture.specs.Picture.{picture_of}
use Rattle.run_picture.specs.declared.picture.Style.{Style}
use Rattle.simulator_lanes.specs.declared.panel.Head.{Head}
use Rattle.run_columns.specs.declared.mark.Mark.{Mark}
use Rattle.run_columns.specs.declared.mark.Mark.TheVariants.{Crash}
use Rattle.view_draw.specs.Held.{ShowsHeld}
use Rattle.view_draw.specs.Seen.{AreMarks, Kept, nothing_kept}

-- ---- panels

-- whether a panel is of the room of this name that is open now
abbrev pub is_of : List ℕ → Panel → Bool
is_of name panel = is_none panel.report && bytes_eq panel.head.spec.name name

abbrev pub with_marks : List ℕ → List Mark → Panel → Panel
with_marks name marks panel = if is_of name panel then record panel { marks = panel.marks ++ marks } else panel

-- the panels after this happened next in the room of this name
abbrev pub noted : List ℕ → List Mark → List Panel → List Panel
noted name marks panels = map (with_marks name marks) panels

-- a list with the element at a place changed, if it has one there
abbrev pub changed_at : {A : Type 0} → (A → A) → ℕ → List A → List A
changed_at change place [] = []
changed_at change zero (x ∷ xs) = change x ∷ xs
changed_at change (suc place) (x ∷ xs) = x ∷ changed_at change place xs

abbrev pub changed : {A : Type 0} → (A → A) → Option ℕ → List A → List A
changed change None xs = xs
changed change (Some place) xs = changed_at change place xs

abbrev pub with_report : ReportData → Panel → Panel
with_report report panel = record panel { report = Some report }

-- the panels, if this is the final state of the room of this name
abbrev pub finished : List ℕ → ReportData → List Panel → List Panel
finished name report panels = changed (with_report report) (position (is_of name) panels) panels

abbrev pub fresh : Head → Panel
fresh head = record { head = head; marks = []; report = None }

-- ---- one command

-- a report is that of the room of this name, and a true one
abbrev pub IsReportAt : Entries → List ℕ → ReportData → Type 0
IsReportAt rooms name report = (room : Option OpenRoom) → IsStateOf (room_at rooms name) room
    → (replies.Report report ≡ reply_to room (commands.Report name)) × IsReportOf room report

-- this is the report of the room of this name, if there is one
abbrev pub IsFinal : Entries → List ℕ → Option ReportData → Type 0
IsFinal rooms name None = room_at rooms name ≡ None
IsFinal rooms name (Some report) = IsReportAt rooms name report

-- a room that is opened has a panel of its own, with a block that says it
abbrev pub DrawsOpening : RoomSpec → Reply → List Panel → List Panel → Type 0
DrawsOpening spec replies.Begun before after = (block : List ℕ) × (head : Head) × IsBlockOf spec block × IsHeadOf spec block head × IsWithinLimits spec × (after ≡ before ++ fresh head ∷ [])
DrawsOpening spec reply before after = after ≡ before

-- the steps that a command takes are drawn, and no others, in their order
pub record DrawsSteps (rooms : Entries) (name : List ℕ) (command : Command) (before after : List Panel) : Type 0 where
  pub marks : List Mark
  pub are_marks : AreMarks (steps_of (room_at rooms name) command) marks
  pub drawn : after ≡ noted name marks before

abbrev pub has_crashed : Reply → Bool
has_crashed (replies.Crash Crashed) = true
has_crashed reply = false

-- if a command is refused, none is
abbrev pub DrawsStepsUnless : Option Refusal → Entries → List ℕ → Command → List Panel → List Panel → Type 0
DrawsStepsUnless None rooms name command before after = DrawsSteps rooms name command before after
DrawsStepsUnless (Some refusal) rooms name command before after = after ≡ before

-- a crash is drawn if the simulator did crash
abbrev pub crash_marks : ℕ → Reply → List Mark
crash_marks simulator reply = if has_crashed reply then Crash simulator ∷ [] else []

-- a room that is closed has its final report
abbrev pub DrawsClosing : Entries → List ℕ → Reply → List Panel → List Panel → Type 0
DrawsClosing rooms name replies.Closed before after = (report : ReportData) × IsReportAt rooms name report × (after ≡ finished name report before)
DrawsClosing rooms name reply before after = after ≡ before

abbrev pub DrawsCommand : Entries → Command → Reply → List Panel → List Panel → Type 0
DrawsCommand rooms (commands.Begin spec) reply before after = DrawsOpening spec reply before after
DrawsCommand rooms (commands.Step name sim count) reply before after = DrawsStepsUnless (refusal_in reply) rooms name (commands.Step name sim count) before after
DrawsCommand rooms (commands.Settle name) reply before after = DrawsStepsUnless (refusal_in reply) rooms name (commands.Settle name) before after
DrawsCommand rooms (commands.Crash name sim) reply before after = after ≡ noted name (crash_marks sim reply) before
DrawsCommand rooms (commands.Report name) reply before after = after ≡ before
DrawsCommand rooms (commands.Close name) reply before after = DrawsClosing rooms name reply before after

-- ---- a script

-- one thing more was done to these rooms, which led to those: it is drawn, and refused blocks draw nothing
abbrev pub IsDrawnBy : List Panel → Entries → Done → Entries → List Panel → Type 0
IsDrawnBy before rooms (Replied command reply) left after = DrawsCommand rooms command reply before after
IsDrawnBy before rooms (Faulty line fault) left after = after ≡ before
IsDrawnBy before rooms (Unread line) left after = after ≡ before

-- a room that is still open at the end has its final report
abbrev pub HasComeTo : Entries → List ℕ → Option ReportData → Option ReportData → Type 0
HasComeTo rooms name (Some known) report = report ≡ Some known
HasComeTo rooms name None (Some report) = IsReportAt rooms name report
HasComeTo rooms name None None = room_at rooms name ≡ None

pub record IsFinished (rooms : Entries) (before after : Panel) : Type 0 where
  pub head : after.head ≡ before.head
  pub marks : after.marks ≡ before.marks
  pub report : HasComeTo rooms before.head.spec.name before.report after.report

abbrev pub AreFinished : Entries → List Panel → List Panel → Type 0
AreFinished rooms [] [] = ⊤
AreFinished rooms (before ∷ befores) (after ∷ afters) = IsFinished rooms before after × AreFinished rooms befores afters
AreFinished rooms [] (after ∷ afters) = ⊥
AreFinished rooms (before ∷ befores) [] = ⊥

-- the picture of a script's rooms in a style, and the end that goes with it
pub record IsDrawn (style : Style) (input : List ℕ) (ending : Result Outcome AllocError) (output : List ℕ) : Type 0 where
  pub entries : List Asked
  pub asked : script_says input ≡ Ok entries
  pub all : List Done
  pub each_entry : AreDone All entries all
  pub rooms : Entries
  pub panels : List Panel
  pub drawn : AreFollowed IsDrawnBy [] [] all rooms panels
  -- the rooms that are open at the end
  pub left : Entries
  pub same_rooms : (name : List ℕ) → room_at left name ≡ room_at rooms name
  pub at_end : List Panel
  pub finished_are : AreFinished left panels at_end
  -- each process that is held is seen to be: its holder's lane is hatched from its entering on
  pub held : AllByRecursion ShowsHeld at_end
  pub output_is : output ≡ svg_of (picture_of style at_end)
  pub ending_is : ending ≡ ending_of all

-- ---- inside the crate

-- The place of the one element of a list that passes a test, or none does.
abbrev pub IsPlace : {A : Type 0} → Option ℕ → (A → Bool) → List A → Type 0
IsPlace None test [] = ⊤
IsPlace None test (x ∷ xs) = (test x ≡ false) × IsPlace None test xs
IsPlace (Some place) test [] = ⊥
IsPlace (Some zero) test (x ∷ xs) = (test x ≡ true) × IsPlace None test xs
IsPlace (Some (suc place)) test (x ∷ xs) = (test x ≡ false) × IsPlace (Some place) test xs

-- the places of panels by the names of their rooms
abbrev pub Places : Type 0
Places = List (List ℕ × ℕ)

-- under a name is the place of the panel of the room that is open under it; there is one at most
abbrev pub AreIndexed : Places → List Panel → Type 0
AreIndexed places panels = (name : List ℕ) → IsPlace (lookup (bytes_eq name) places) (is_of name) panels

-- What is known before a command to these rooms: of a room that is to be opened what its panel shows above the lanes, of one that is to be
-- closed its report; and nothing was seen yet of a command that takes steps.
abbrev pub IsReady : Entries → Command → Option Head → Option ReportData → Option Kept → Type 0
IsReady rooms (commands.Begin spec) head report watch = (block : List ℕ) × (known : Head) × (head ≡ Some known) × IsBlockOf spec block × IsHeadOf spec block known × IsWithinLimits spec
IsReady rooms (commands.Step name sim count) head report watch = watch ≡ Some nothing_kept
IsReady rooms (commands.Settle name) head report watch = watch ≡ Some nothing_kept
IsReady rooms (commands.Close name) head report watch = IsFinal rooms name report
IsReady rooms command head report watch = ⊤

-- the panels with the steps that were seen in the room of this name, if the command was not refused
abbrev pub AreStepsNoted : Option Refusal → List ℕ → Option Kept → List Panel → List Panel → Type 0
AreStepsNoted (Some refusal) name watch before after = after ≡ before
AreStepsNoted None name None before after = after ≡ before
AreStepsNoted None name (Some kept) before after = (kept.failed ≡ false) × (after ≡ noted name kept.marks before)

-- the panels once the room of this name was opened, or closed, if it was
abbrev pub opened_with : Option Head → Reply → List Panel → List Panel
opened_with (Some head) replies.Begun panels = panels ++ fresh head ∷ []
opened_with head reply panels = panels

abbrev pub closed_with : List ℕ → Option ReportData → Reply → List Panel → List Panel
closed_with name (Some report) replies.Closed panels = finished name report panels
closed_with name report reply panels = panels

-- the picture of these panels, if these rooms are still open
pub record IsPictureOf (style : Style) (rooms : Entries) (panels : List Panel) (output : List ℕ) : Type 0 where
  pub at_end : List Panel
  pub finished_are : AreFinished rooms panels at_end
  pub output_is : output ≡ svg_of (picture_of style at_end)

abbrev pub HaveSameRooms : Entries → Entries → Type 0
HaveSameRooms left rooms = (name : List ℕ) → room_at left name ≡ room_at rooms name

pub record IsPictureFrom (style : Style) (rooms : Entries) (panels : List Panel) (output : List ℕ) : Type 0 where
  pub left : Entries
  pub same_rooms : HaveSameRooms left rooms
  pub picture : IsPictureOf style left panels output
