-- What a sample's script leads to when it is played.
use Rattle.std.specs.Prelude.{◌≡◌, ℕ, List, ◌++◌, Ok, IsOk}
use Rattle.std.specs.List.{flat_map}
use Rattle.room_core.specs.declared.reply.CrashReply.TheVariants.{Crashed}
use Rattle.room_core.specs.declared.reply.StepReply.TheVariants.{Stepped}
use Rattle.ws_history.specs.declared.states.ProcessState.{ProcessState}
use Rattle.ws_history.specs.declared.states.Report.{Report as ReportData}
use Rattle.service_core.specs.declared.reply.Reply.TheVariants as replies
use Rattle.room_files.specs.declared.outcome.Outcome.{Outcome}
use Rattle.room_files.specs.declared.outcome.Outcome.TheVariants.{AllWell}
use Rattle.room_files.specs.Kinds.{block_of}
use Rattle.room_files.specs.declared.kinds.Kinds.{Kinds}
use Rattle.script_play.specs.Play.{IsPlayFor}
use Rattle.script_play.specs.ReplyTexts.{reply_text}
use Rattle.script_play.specs.Script.{script_says}
use Rattle.room_sample.specs.Shown.{Shown}
use Rattle.view_sample.specs.Texts.{script_text}
use Rattle.room_sample.specs.declared.stretch.Stretch.{Stretch}
use Rattle.room_sample.specs.declared.stretch.Stretch.TheVariants.{Steps, Crash}

-- the reply by which a room says that it followed a stretch: it took all these steps, or the simulator crashed
abbrev pub reply_to_stretch : List ℕ → Stretch → List ℕ
reply_to_stretch name (Steps simulator count) = reply_text name simulator (replies.Steps count Stepped)
reply_to_stretch name (Crash simulator) = reply_text name simulator (replies.Crash Crashed)

-- the replies of a room that is opened, follows a schedule, settles, and has this report
abbrev pub replies_to_schedule : List ℕ → List Stretch → ReportData → List ℕ
replies_to_schedule name schedule report =
    reply_text name 0 replies.Begun ++ (flat_map (reply_to_stretch name) schedule ++ (reply_text name 0 replies.Settled ++ reply_text name 0 (replies.Report report)))

-- The script has no fault. Whenever it is played by a program that reads blocks as its own, and memory suffices, nothing is refused, the room
-- follows the schedule, and it then reports these states.
pub record LeadsTo (block name : List ℕ) (schedule : List Stretch) (states : List ProcessState) (script : List ℕ) : Type 0 where
  pub valid : IsOk (script_says script)
  pub report : ReportData
  pub states_are : report.states.items ≡ states
  pub played : (kinds : Kinds) (outcome : Outcome) (output : List ℕ) → IsOk (block_of kinds block) → IsPlayFor kinds script (Ok outcome) output → (outcome ≡ AllWell) × (output ≡ replies_to_schedule name schedule report)

-- the script of an outcome leads to it
abbrev pub HasScript : List ℕ → List ℕ → Shown → Type 0
HasScript name block one = LeadsTo block name one.schedule one.states (script_text name block one.schedule)
