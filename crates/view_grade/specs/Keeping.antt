-- Whether the histories of a script's rooms keep a task of one's own, command by command.
use Rattle.std.specs.Prelude.{◌≡◌, ℕ, zero, suc, ◌+◌, Bool, true, false, ◌&&◌, List, [], ◌∷◌, ◌++◌, length, map, min, is_none, Option, Some, None, Result, Ok, codes, slice_index_or}
use Rattle.std.specs.declared.alloc.AllocError.{AllocError}
use Rattle.std.specs.List.{concat, range_with_len}
use Rattle.serde_json.specs.Data.{Data, boolean, member, no_members, null, object}
use Rattle.json_lines.specs.Lines.{json_line}
use Rattle.json_lines.specs.Values.{entry_data, number_data, row_data, text_data}
use Rattle.protocol_lang.specs.Trees.{Tree}
use Rattle.room_spec.specs.Rooms.{RoomSpec}
use Rattle.room_spec.specs.Texts.{first_line, later_lines}
use Rattle.ws_history.specs.Inputs.{IsRoomRun}
use Rattle.transcript.specs.declared.event.Event.{Event}
use Rattle.decision_tasks.specs.Tasks.{IsFirstBroken, KeepsDecisions}
use Rattle.decision_tasks.specs.declared.history.Moment.{Moment}
use Rattle.room_core.specs.Calls.{RoomState}
use Rattle.room_core.specs.Fields.{Fields}
use Rattle.room_core.specs.Reading.{AreFieldsOf}
use Rattle.ws_history.specs.Sources.{history_of}
use Rattle.service_core.specs.Replies.{name_in}
use Rattle.service_core.specs.Rooms.{Entries, room_at}
use Rattle.room_files.specs.Lines.{text_lines}
use Rattle.room_files.specs.declared.outcome.Outcome.{Outcome}
use Rattle.room_files.specs.declared.kinds.Kinds.TheVariants.{All}
use Rattle.script_play.specs.Play.{AreDone, AreReplies, Done, Faulty, Replied, Unread, commands_of, ending_of, replies_in}
use Rattle.script_play.specs.Following.{AreFollowed}
use Rattle.script_play.specs.Script.{Entry as Asked, block_after, script_says, text_after}
use Rattle.view_grade.specs.Grades.{Graded, IsGradedBy, and_number, claim_lines, claims_data, end_line, few_line, graded_ending, is_reached, nothing_graded, one_more}
use Rattle.view_grade.specs.declared.goal.Claim.{Claim}

-- ---- a room

-- the events keep the task; or this is the first moment after which they don't
abbrev pub IsKeptTo : List Tree → RoomSpec → List Event → Option Moment → Type 0
IsKeptTo lines spec events None = KeepsDecisions lines spec events
IsKeptTo lines spec events (Some moment) = IsFirstBroken lines spec events moment

-- The history of a room, which is a run, keeps the task; or this is the first moment after which it doesn't.
pub record IsJudged (lines : List Tree) (room : RoomState) (found : Option Moment) : Type 0 where
  pub events : List Event
  pub history : (fields : Fields) → AreFieldsOf room fields → events ≡ history_of room.spec fields
  pub run : IsRoomRun room.spec events
  pub kept : IsKeptTo lines room.spec events found

-- there is nothing to judge without a room
abbrev pub IsJudgedIf : List Tree → Option RoomState → Option Moment → Type 0
IsJudgedIf lines None found = found ≡ None
IsJudgedIf lines (Some room) found = IsJudged lines room found

-- ---- lines

-- the line of what comes after an entry that begins with a line of this number
abbrev pub next_number : ℕ → List ℕ → List ℕ → ℕ
next_number number line later = min (number + (1 + length (text_lines (block_after line later)))) 18446744073709551615

-- the first line of the entry of this index, from 0, in a text whose first line has this number; a number ends at the largest of 64 bits
unfoldable pub line_from : ℕ → ℕ → List ℕ → ℕ
line_from zero number text = number
line_from (suc index) number [] = number
line_from (suc index) number (byte ∷ bytes) =
    line_from index (next_number number (first_line (byte ∷ bytes)) (later_lines (byte ∷ bytes))) (text_after (first_line (byte ∷ bytes)) (later_lines (byte ∷ bytes)))

abbrev pub line_at : List ℕ → ℕ → ℕ
line_at script index = line_from index 1 script

-- ---- a script, command by command

-- the line of a command, the name of its room, and the moment of the room's history after which the task isn't kept
pub record Found : Type 0 where
  pub line : ℕ
  pub room : List ℕ
  pub moment : Moment

abbrev pub found_at : ℕ → List ℕ → Option Moment → Option Found
found_at line name None = None
found_at line name (Some moment) = Some (record { line = line; room = name; moment = moment })

-- how many entries were done, and what was found first
pub record Watched : Type 0 where
  pub entries : ℕ
  pub found : Option Found

abbrev pub nothing_watched : Watched
nothing_watched = record { entries = 0; found = None }

-- after a command the history of the room of its name is judged, as it is then
abbrev pub IsFoundAt : List Tree → ℕ → List ℕ → Option RoomState → Option Found → Type 0
IsFoundAt lines line name room now = (moment : Option Moment) × IsJudgedIf lines room moment × (now ≡ found_at line name moment)

-- unless something was found before
abbrev pub IsFoundUnless : Option Found → List Tree → ℕ → List ℕ → Option RoomState → Option Found → Type 0
IsFoundUnless None lines line name room now = IsFoundAt lines line name room now
IsFoundUnless (Some found) lines line name room now = now ≡ Some found

-- a block that is refused has no room
abbrev pub IsSoughtBy : List Tree → ℕ → Option Found → Done → Entries → Option Found → Type 0
IsSoughtBy lines line found (Replied command reply) left now = IsFoundUnless found lines line (name_in command) (room_at left (name_in command)) now
IsSoughtBy lines line found (Faulty number fault) left now = now ≡ found
IsSoughtBy lines line found (Unread number) left now = now ≡ found

-- one thing more was done, which led to these rooms
abbrev pub IsWatchedBy : List Tree → List ℕ → Watched → Done → Entries → Watched → Type 0
IsWatchedBy lines script before done left now = (now.entries ≡ one_more before.entries) × IsSoughtBy lines (line_at script before.entries) before.found done left now.found

-- what is graded and what is watched
pub record Kept : Type 0 where
  pub graded : Graded
  pub watched : Watched

abbrev pub nothing_kept : Kept
nothing_kept = record { graded = nothing_graded; watched = nothing_watched }

abbrev pub IsKeptBy : List Tree → List ℕ → Kept → Entries → Done → Entries → Kept → Type 0
IsKeptBy lines script before rooms done left now = IsGradedBy before.graded rooms done left now.graded × IsWatchedBy lines script before.watched done left now.watched

-- ---- the text

abbrev pub decision_words : ℕ → ℕ → List ℕ
decision_words process value = and_number (codes "process") process ++ (and_number (codes " decided") value ++ codes "; ")

-- what a process has decided, if it has
abbrev pub decider_words : ℕ → Option ℕ → List ℕ
decider_words process None = []
decider_words process (Some value) = decision_words process value

abbrev pub deciders_words : List (Option ℕ) → List ℕ
deciders_words decisions = concat (map (λ p. decider_words p (slice_index_or decisions p None)) (range_with_len 0 (length decisions)))

abbrev pub refused_words : ℕ → ℕ → List ℕ
refused_words process value = and_number (codes "no line of the task allows that process") process ++ and_number (codes " decided") value

-- what each process has decided, and which of this no line allows
abbrev pub moment_words : Moment → List ℕ
moment_words moment = deciders_words moment.decisions.items ++ refused_words moment.process moment.value

abbrev pub place_words : List ℕ → ℕ → List ℕ
place_words name line = (codes "decisions allowed: no, room " ++ name) ++ and_number (codes " after line") line

abbrev pub broken_line : List ℕ → ℕ → Moment → List ℕ
broken_line name line moment = place_words name line ++ (codes ": " ++ (moment_words moment ++ codes "\n"))

-- whether each room's history kept the task after each command
abbrev pub kept_line : Option Found → List ℕ
kept_line None = codes "decisions allowed: yes\n"
kept_line (Some found) = broken_line found.room found.line found.moment

-- the goal is reached, and the task is kept
abbrev pub is_kept_reached : List Claim → Option ℕ → Graded → Option Found → Bool
is_kept_reached claims most graded found = is_reached claims most graded.last graded.moves && is_none found

abbrev pub kept_text : List Claim → Option ℕ → Graded → Option Found → List ℕ
kept_text claims most graded found = claim_lines graded.last claims ++ (few_line most graded.moves ++ (kept_line found ++ end_line (is_kept_reached claims most graded found)))

-- ---- as JSON

-- the command after which the task isn't kept, its room, and what was decided then
abbrev pub found_data : Found → Data
found_data found =
    object (member (codes "decisions") (row_data found.moment.decisions.items) (member (codes "line") (number_data found.line) (member (codes "process") (number_data found.moment.process)
    (member (codes "room") (text_data found.room) (member (codes "value") (number_data found.moment.value) no_members)))))

abbrev pub broken_data : Option Found → Data
broken_data None = null
broken_data (Some found) = found_data found

abbrev pub kept_data : List Claim → Option ℕ → Graded → Option Found → Data
kept_data claims most graded found =
    object (member (codes "broken") (broken_data found) (member (codes "claims") (claims_data graded.last claims) (member (codes "commands") (number_data graded.moves) (member (codes "kept") (boolean (is_none found))
    (member (codes "most") (entry_data most) (member (codes "reached") (boolean (is_kept_reached claims most graded found)) no_members))))))

-- as text or as JSON
abbrev pub kept_shown : Bool → List Claim → Option ℕ → Graded → Option Found → List ℕ
kept_shown false claims most graded found = kept_text claims most graded found
kept_shown true claims most graded found = json_line (kept_data claims most graded found)

-- ---- a whole script

-- What is said of a script that is judged by a goal and by a task: the replies to its commands are those of `bgsim play`, the last report among them is judged by the goal, and the history of
-- each room, after each command to it, by the task.
pub record IsKeptGrade (json : Bool) (claims : List Claim) (most : Option ℕ) (lines : List Tree) (input : List ℕ) (ending : Result Outcome AllocError) (output : List ℕ) : Type 0 where
  pub entries : List Asked
  pub asked : script_says input ≡ Ok entries
  pub all : List Done
  pub each_entry : AreDone All entries all
  pub replies : AreReplies (commands_of all) (replies_in all)
  pub rooms : Entries
  pub kept : Kept
  pub followed : AreFollowed (IsKeptBy lines input) [] nothing_kept all rooms kept
  pub output_is : output ≡ kept_shown json claims most kept.graded kept.watched.found
  pub ending_is : ending ≡ graded_ending (ending_of all) (is_kept_reached claims most kept.graded kept.watched.found)
