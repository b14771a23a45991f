-- What is said of a script, command by command.
use Rattle.std.specs.Prelude.{◌≡◌, ◌&&◌, ℕ, Bool, true, List, [], ◌∷◌, ◌++◌, Option, Some, None, Result, if◌then◌else◌}
use Rattle.std.specs.Prelude.{IfSome}
use Rattle.std.specs.declared.alloc.AllocError.{AllocError}
use Rattle.json_lines.specs.Lines.{json_line}
use Rattle.room_spec.specs.Rooms.{RoomSpec}
use Rattle.room_core.specs.Calls.{RoomState}
use Rattle.room_files.specs.declared.outcome.Outcome.{Outcome}
use Rattle.room_files.specs.declared.kinds.Kinds.TheVariants.{All}
use Rattle.run_search.specs.Outcomes.{Ends}
use Rattle.service_core.specs.Replies.{name_in}
use Rattle.service_core.specs.Rooms.{Entries, room_at}
use Rattle.script_play.specs.Following.{IsPlay}
use Rattle.script_play.specs.Play.{Done, Faulty, Replied, Unread, done_text, ending_at_refusal}
use Rattle.script_play.specs.ReplyTexts.{reply_to_command}
use Rattle.view_open.specs.Json.{open_data, reply_data}
use Rattle.view_open.specs.Logs.{Noted, acts_after, acts_of, known_before, known_of, what_by}
use Rattle.view_open.specs.Open.{IsFoundOpen, crashes_for, is_complete, known_in}
use Rattle.view_open.specs.Pasts.{AreOf}
use Rattle.view_open.specs.Texts.{open_notes}
use Rattle.view_open.specs.declared.log.What.{What}
use Rattle.view_open.specs.declared.plan.OpenPlan.{OpenPlan}
use Rattle.view_open.specs.declared.searching.Found.{Found}
use Rattle.view_open.specs.declared.watcher.Watcher.{Watcher}

-- ---- what is written

-- what `play` writes of what was done, and no more; in JSON its first line
abbrev pub plain_shown : Bool → List ℕ → List ℕ
plain_shown json words = if json then json_line (reply_data words) else words

-- with the outcomes that are open after it
abbrev pub open_shown : OpenPlan → RoomSpec → List ℕ → List Ends → Option Found → List ℕ
open_shown plan spec words known found = if plan.json then json_line (open_data words spec.name (crashes_for spec plan.crashes) plan.nodes known found) else words ++ open_notes plan.nodes known found

-- ---- one thing more was done

-- all that was done to rooms so far, and what was said of it: by a plan of searches, and whether each has found all outcomes that are open
pub record SoFar : Type 0 where
  pub plan : OpenPlan
  pub log : List Noted
  pub output : List ℕ
  pub well : Bool

-- this was written, and nothing else has changed
pub record IsShown (old : SoFar) (text : List ℕ) (new : SoFar) : Type 0 where
  pub plan : new.plan ≡ old.plan
  pub log : new.log ≡ old.log
  pub well : new.well ≡ old.well
  pub output : new.output ≡ old.output ++ text

-- no room was changed
abbrev pub IsPlain : SoFar → List ℕ → SoFar → Type 0
IsPlain old words new = IsShown old (plain_shown old.plan.json words) new

-- what was done to the room of this name, and the outcomes that are open, if all are known
pub record IsNote (name : List ℕ) (what : What) (found : Option Found) (note : Noted) : Type 0 where
  pub of : note.name ≡ name
  pub what_is : note.what ≡ what
  pub known : note.known ≡ known_in found

-- The room of this name was changed so. A search in it has found which outcomes are open, or has met the limit; these are written, and noted.
pub record IsSearched (old : SoFar) (name words : List ℕ) (what : What) (spec : RoomSpec) (new : SoFar) : Type 0 where
  pub found : Option Found
  pub is_found : IfSome found (IsFoundOpen old.plan spec (acts_after (acts_of name old.log) what))
  pub plan : new.plan ≡ old.plan
  pub note : Noted
  pub is_note : IsNote name what found note
  pub log : new.log ≡ old.log ++ note ∷ []
  pub well : new.well ≡ (old.well && is_complete found)
  pub output : new.output ≡ old.output ++ open_shown old.plan spec words (known_before (known_of name old.log) what) found

-- what a command did to this room, if it changed it
abbrev pub IsNoted : SoFar → List ℕ → List ℕ → Option What → Option RoomState → SoFar → Type 0
IsNoted old name words None room new = IsPlain old words new
IsNoted old name words (Some what) None new = IsPlain old words new
IsNoted old name words (Some what) (Some room) new = IsSearched old name words what room.spec new

-- one thing more was done, which led to these rooms
abbrev pub IsFollowed : SoFar → Entries → Done → Entries → SoFar → Type 0
IsFollowed old rooms (Replied command reply) after new = IsNoted old (name_in command) (reply_to_command command reply) (what_by command reply) (room_at after (name_in command)) new
IsFollowed old rooms (Faulty line fault) after new = IsPlain old (done_text (Faulty line fault)) new
IsFollowed old rooms (Unread line) after new = IsPlain old (done_text (Unread line)) new

-- ---- a whole script

-- not all is well if some outcomes that are open may not be found
abbrev pub ending_shown : Bool → Result Outcome AllocError → Result Outcome AllocError
ending_shown well ending = if well then ending else ending_at_refusal ending

-- What is said of a script, from its first command on, and the end that goes with it.
pub record IsOpenFor (plan : OpenPlan) (script : List ℕ) (ending : Result Outcome AllocError) (output : List ℕ) : Type 0 where
  pub first : SoFar
  pub last : SoFar
  pub plan_is : first.plan ≡ plan
  pub no_log : first.log ≡ []
  pub no_output : first.output ≡ []
  pub well : first.well ≡ true
  pub rooms : Entries
  pub played : Result Outcome AllocError
  pub play : IsPlay IsFollowed All script first rooms last played
  pub output_is : output ≡ last.output
  pub ending_is : ending ≡ ending_shown last.well played

-- ---- inside the crate

-- the watcher has what was said so far, and of each room what the log says
pub record Keeps (watcher : Watcher) (so_far : SoFar) : Type 0 where
  pub plan : watcher.plan ≡ so_far.plan
  pub pasts : AreOf watcher.pasts.rooms.entries so_far.log
  pub output : watcher.output ≡ so_far.output
  pub well : watcher.well ≡ so_far.well

-- what comes next of all that the watcher has is what this says
abbrev pub Does : (SoFar → SoFar → Type 0) → Watcher → Watcher → Type 0
Does goes old new = (so_far : SoFar) → Keeps old so_far → (next : SoFar) × Keeps new next × goes so_far next

-- the watcher has written this, and nothing else has changed
pub record Writes (old : Watcher) (text : List ℕ) (new : Watcher) : Type 0 where
  pub plan : new.plan ≡ old.plan
  pub pasts : new.pasts ≡ old.pasts
  pub well : new.well ≡ old.well
  pub output : new.output ≡ old.output ++ text
