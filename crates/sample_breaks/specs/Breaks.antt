-- By how many schedules of a plan a room's history breaks a task of one's own.
use Rattle.std.specs.Prelude.{◌≡◌, ◌↔◌, ℕ, ◌+◌, Bool, true, not, List, length, Option, option_and_then, option_map, None, Some, slice_get, if◌then◌else◌}
use Rattle.std.specs.List.{count_by, find}
use Rattle.protocol_lang.specs.Trees.{Tree}
use Rattle.room_spec.specs.Rooms.{RoomSpec}
use Rattle.ws_history.specs.Inputs.{IsRoomRun}
use Rattle.transcript.specs.declared.event.Event.{Event}
use Rattle.room_core.specs.Calls.{RoomState}
use Rattle.room_core.specs.Fields.{Fields}
use Rattle.room_core.specs.Reading.{AreFieldsOf}
use Rattle.ws_history.specs.Sources.{history_of}
use Rattle.decision_tasks.specs.Tasks.{KeepsDecisions}
use Rattle.room_sample.specs.Chances.{random_of}
use Rattle.room_sample.specs.Samples.{IsSettledFrom, number_at}
use Rattle.room_sample.specs.declared.sampling.Plan.{Plan}
use Rattle.room_sample.specs.declared.stretch.Stretch.{Stretch}
use Rattle.sample_breaks.specs.declared.breaks.Breaks.{Breaks}
use Rattle.sample_breaks.specs.declared.breaks.Broken.{Broken}

-- ---- one schedule

-- the number of a schedule, the schedule, and whether the room's history by it keeps the task
pub record Judged : Type 0 where
  pub number : ℕ
  pub schedule : List Stretch
  pub kept : Bool

-- The run by the schedule of this number leads to a room, whose history keeps the task exactly if this says so.
pub record IsJudgedBy (lines : List Tree) (spec : RoomSpec) (plan : Plan) (number : ℕ) (run : Judged) : Type 0 where
  pub number_is : run.number ≡ number
  pub room : RoomState
  pub settled : IsSettledFrom spec plan.crashes (random_of plan.seed number) run.schedule room
  pub events : List Event
  pub history : (fields : Fields) → AreFieldsOf room fields → events ≡ history_of room.spec fields
  pub is_run : IsRoomRun room.spec events
  pub kept_is : (run.kept ≡ true) ↔ KeepsDecisions lines room.spec events

-- ---- all schedules of a plan

abbrev pub is_broken : Judged → Bool
is_broken run = not run.kept

-- the number and the schedule of a run that breaks the task
abbrev pub found_in : Judged → Option (ℕ × List Stretch)
found_in run = if run.kept then None else Some (run.number, run.schedule)

abbrev pub first_of : Option Broken → Option (ℕ × List Stretch)
first_of found = option_map (λ one. (one.number, one.schedule.items)) found

-- how many of these runs break the task, and the first of them
abbrev pub AreBreaksOf : List Judged → Breaks → Type 0
AreBreaksOf runs breaks = (breaks.times ≡ count_by is_broken runs) × (first_of breaks.first ≡ option_and_then found_in (find is_broken runs))

-- The runs by this many schedules, by the places from 0 on: by how many of them the history breaks the task, and which of them is the first.
pub record AreBreaks (lines : List Tree) (spec : RoomSpec) (plan : Plan) (schedules : ℕ) (breaks : Breaks) : Type 0 where
  pub runs : List Judged
  pub count : length runs ≡ schedules
  pub judged : (k : ℕ) (run : Judged) → slice_get runs k ≡ Some run → IsJudgedBy lines spec plan (number_at plan k) run
  pub breaks_are : AreBreaksOf runs breaks

-- ---- counts that add up

-- the earlier one, if there is one
abbrev pub either : Option Broken → Option Broken → Option Broken
either None later = later
either (Some first) later = Some first

-- the breaks of one plan and those of a later one
abbrev pub added : Breaks → Breaks → Breaks
added breaks later = record { times = breaks.times + later.times; first = either breaks.first later.first }

-- ---- inside the crate

abbrev pub IsFoundOf : Judged → Option Broken → Type 0
IsFoundOf run found = first_of found ≡ found_in run

-- the count with one schedule more, by which this was found
abbrev pub noted : Breaks → Option Broken → Breaks
noted breaks None = breaks
noted breaks (Some broken) = record { times = breaks.times + 1; first = either breaks.first (Some broken) }
