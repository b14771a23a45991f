-- The answers to a script that is fed as it is written.
use Rattle.std.specs.Prelude.{◌≡◌, ⊤, ℕ, ◌+◌, ◌-◌, ◌<◌, ◌≤◌, Bool, true, false, List, [], ◌∷◌, ◌++◌, Result, Ok, Err, min, codes, decimal}
use Rattle.std.specs.declared.alloc.AllocError.{AllocError}
use Rattle.std.specs.List.{flat_map, list_any}
use Rattle.service_core.specs.Rooms.{Entries}
use Rattle.service_core.specs.declared.reply.Reply.{Reply}
use Rattle.service_core.specs.declared.reply.Reply.TheVariants.{Begun, Closed, Crash, Refused, Report, Settled, Steps}
use Rattle.room_files.specs.Faults.{text_code}
use Rattle.room_files.specs.declared.fault.TextFault.{TextFault}
use Rattle.room_files.specs.declared.outcome.Outcome.{Outcome}
use Rattle.room_files.specs.declared.kinds.Kinds.TheVariants.{All}
use Rattle.script_play.specs.Script.{Entry}
use Rattle.script_play.specs.Following.{Leaves}
use Rattle.script_play.specs.Play.{AreReplies, Done, Faulty, IsDone, Replied, Unread, commands_of, done_text, ending_if, ran_out_of_memory, is_refused, replies_in}
use Rattle.live_script.specs.Entries.{Piece, Line, Block, asked_by, line_after}
use Rattle.live_script.specs.declared.live.TheConstants.{MAX_ROOMS}

-- What came of an entry: what comes of it in any script; or its line, which has this number, is malformed; or it is to open a room when
-- as many are open as may be.
pub data Answer : Type 0 where
  Did : Done → Answer
  Malformed : ℕ → TextFault → Answer
  Crowded : ℕ → Answer

-- ---- the text

-- A line about the line of this number. No reply begins with `!`, since no name of a room does.
abbrev pub remark : ℕ → List ℕ → List ℕ
remark line words = codes "! line " ++ (decimal line ++ (words ++ codes "\n"))

abbrev pub answer_text : Answer → List ℕ
answer_text (Did done) = done_text done
answer_text (Malformed line fault) = remark line (codes ": fault " ++ decimal (text_code fault))
answer_text (Crowded line) = remark line (codes ": too many rooms")

abbrev pub answers_text : List Answer → List ℕ
answers_text answers = flat_map answer_text answers

-- what is said of an entry that is too long, which ends the script
abbrev pub long_text : ℕ → List ℕ
long_text line = remark line (codes ": too long")

-- ---- how many rooms are open

-- the most rooms that are open at a time
abbrev pub most_rooms : ℕ
most_rooms = MAX_ROOMS

-- how many are open after a reply, when this many were
abbrev pub open_after : ℕ → Reply → ℕ
open_after opened Begun = min (opened + 1) most_rooms
open_after opened (Steps taken last) = opened
open_after opened (Crash reply) = opened
open_after opened Settled = opened
open_after opened (Report report) = opened
open_after opened Closed = opened - 1
open_after opened (Refused refusal) = opened

abbrev pub open_with : ℕ → Done → ℕ
open_with opened (Replied command reply) = open_after opened reply
open_with opened (Faulty line fault) = opened
open_with opened (Unread line) = opened

abbrev pub open_by : ℕ → Answer → ℕ
open_by opened (Did done) = open_with opened done
open_by opened (Malformed line fault) = opened
open_by opened (Crowded line) = opened

-- ---- which answer

abbrev pub HasSpace : ℕ → Piece → Type 0
HasSpace opened (Line line) = ⊤
HasSpace opened (Block block) = opened < most_rooms

-- This is the answer to an entry whose first line has this number, when this many rooms are open.
abbrev pub IsAnswer : ℕ → ℕ → Piece → Answer → Type 0
IsAnswer opened number piece (Did done) = HasSpace opened piece × (entry : Entry) × (asked_by number piece ≡ Ok entry) × IsDone All entry done
IsAnswer opened number piece (Malformed line fault) = asked_by number piece ≡ Err (line, fault)
IsAnswer opened number (Line line) (Crowded at) = ⊥
IsAnswer opened number (Block block) (Crowded at) = (at ≡ number) × (most_rooms ≤ opened)

-- The answers to entries, in order, of which the first line has this number, when this many rooms are open.
abbrev pub AreAnswers : ℕ → ℕ → List Piece → List Answer → Type 0
AreAnswers opened number [] [] = ⊤
AreAnswers opened number (piece ∷ pieces) (answer ∷ answers) = IsAnswer opened number piece answer × AreAnswers (open_by opened answer) (line_after number piece) pieces answers
AreAnswers opened number [] (answer ∷ answers) = ⊥
AreAnswers opened number (piece ∷ pieces) [] = ⊥

abbrev pub done_by : Answer → List Done
done_by (Did done) = done ∷ []
done_by (Malformed line fault) = []
done_by (Crowded line) = []

abbrev pub all_done : List Answer → List Done
all_done answers = flat_map done_by answers

-- What came of a script's entries. What a room replies depends only on the commands to its name: entries that are malformed, or would open a
-- room too many, are as if they had not been.
pub record AreLive (pieces : List Piece) (answers : List Answer) : Type 0 where
  pub each : AreAnswers 0 1 pieces answers
  pub replies : AreReplies (commands_of (all_done answers)) (replies_in (all_done answers))

-- ---- the end

abbrev pub is_out_of_memory : Answer → Bool
is_out_of_memory (Did done) = ran_out_of_memory done
is_out_of_memory (Malformed line fault) = false
is_out_of_memory (Crowded line) = false

abbrev pub has_refused : Answer → Bool
has_refused (Did done) = is_refused done
has_refused (Malformed line fault) = true
has_refused (Crowded line) = true

abbrev pub ending_of : List Answer → Result Outcome AllocError
ending_of answers = ending_if (list_any is_out_of_memory answers) (list_any has_refused answers)

-- ---- inside the crate

-- what is left of the rooms after an answer
abbrev pub LeavesRooms : Entries → Answer → Entries → Type 0
LeavesRooms rooms (Did done) after = Leaves rooms done after
LeavesRooms rooms (Malformed line fault) after = after ≡ rooms
LeavesRooms rooms (Crowded line) after = after ≡ rooms
