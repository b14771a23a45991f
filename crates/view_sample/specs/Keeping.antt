-- What is written of rooms whose sampled histories are judged by a task of one's own.
use Rattle.std.specs.Prelude.{◌≡◌, ℕ, Bool, List, ◌++◌, length, Option, Some, None, is_none, Ok, codes, if◌then◌else◌}
use Rattle.serde_json.specs.Data.{Data, member, no_members, null, number, object, string, unsigned}
use Rattle.json_lines.specs.Lines.{json_line}
use Rattle.protocol_lang.specs.Trees.{Tree}
use Rattle.room_files.specs.Kinds.{block_of}
use Rattle.room_files.specs.declared.kinds.Kinds.TheVariants.{All}
use Rattle.room_spec.specs.Rooms.{RoomSpec}
use Rattle.room_files.specs.Inputs.{all_blocks}
use Rattle.room_files.specs.declared.outcome.Outcome.{Outcome}
use Rattle.room_sample.specs.declared.sampling.Plan.{Plan}
use Rattle.sample_breaks.specs.Breaks.{AreBreaks}
use Rattle.sample_breaks.specs.declared.breaks.Breaks.{Breaks}
use Rattle.sample_breaks.specs.declared.breaks.Broken.{Broken}
use Rattle.view_sample.specs.EachRoom.{IsRoomsOutput}
use Rattle.view_sample.specs.Json.{schedule_unless}
use Rattle.view_sample.specs.Texts.{number_line, number_words, script_unless}

-- ---- in words

-- by each schedule the history keeps the task
abbrev pub allowed_line : List ℕ → Plan → List ℕ
allowed_line name plan = number_line name (codes " decisions allowed in all") plan.schedules (codes " schedules (a sample, no proof)\n")

abbrev pub times_broken_words : List ℕ → ℕ → List ℕ
times_broken_words name times = number_line name (codes " decisions broken in") times (codes " of")

abbrev pub first_words : ℕ → ℕ → List ℕ
first_words schedules first = number_words schedules (codes " schedules, the first of them") ++ number_words first (codes "\n")

-- by how many schedules it doesn't, and which is the first of them
abbrev pub disallowed_line : List ℕ → Plan → ℕ → ℕ → List ℕ
disallowed_line name plan times first = times_broken_words name times ++ first_words plan.schedules first

-- with its script
abbrev pub breaks_text : List ℕ → List ℕ → Plan → ℕ → Option Broken → List ℕ
breaks_text name block plan times None = allowed_line name plan
breaks_text name block plan times (Some broken) = disallowed_line name plan times broken.number ++ script_unless plan.brief name block broken.schedule.items

-- ---- as JSON

-- the number and the schedule of the first
abbrev pub first_data : Bool → Option Broken → Data
first_data brief None = null
first_data brief (Some broken) = object (member (codes "number") (number (unsigned broken.number)) (member (codes "schedule") (schedule_unless brief broken.schedule.items) no_members))

-- a room, the plan of its sample, by how many schedules its history breaks the task, and the first of them
abbrev pub breaks_data : List ℕ → Plan → Breaks → Data
breaks_data name plan breaks =
    object (member (codes "crashes") (number (unsigned plan.crashes)) (member (codes "decisions_broken") (number (unsigned breaks.times)) (member (codes "first") (first_data plan.brief breaks.first)
    (member (codes "from") (number (unsigned plan.from)) (member (codes "room") (string name) (member (codes "schedules") (number (unsigned plan.schedules)) (member (codes "seed") (number (unsigned plan.seed)) no_members)))))))

-- ---- a room

abbrev pub breaks_in : Plan → List ℕ → List ℕ → Breaks → List ℕ
breaks_in plan name block breaks = if plan.json then json_line (breaks_data name plan breaks) else breaks_text name block plan breaks.times breaks.first

-- what is written of a room, with a block that says it: by how many schedules of the plan its history breaks the task; the task is kept if it is none
pub record IsBreaksText (lines : List Tree) (plan : Plan) (spec : RoomSpec) (kept : Bool) (text : List ℕ) : Type 0 where
  pub block : List ℕ
  pub says : block_of All block ≡ Ok (spec, length block)
  pub breaks : Breaks
  pub judged : AreBreaks lines spec plan plan.schedules breaks
  pub text_is : text ≡ breaks_in plan spec.name block breaks
  pub kept_is : kept ≡ is_none breaks.first

-- ---- all rooms

-- The lines of the refused blocks, and of each room by how many schedules its history breaks the task; or this as JSON, and nothing else. All is well if no block was refused, and no history breaks the task.
abbrev pub IsKeptSample : List Tree → Plan → List ℕ → Outcome → List ℕ → Type 0
IsKeptSample lines plan input outcome output = IsRoomsOutput (IsBreaksText lines plan) plan (all_blocks All input) outcome output
