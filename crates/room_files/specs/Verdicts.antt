-- The verdicts on a transcript's rooms, the line that says it, and the outcome of all.
use Rattle.std.specs.Prelude.{◌≡◌, ℕ, Bool, true, false, ◌&&◌, ◌==◌, List, ◌++◌, length, map, Option, Some, if◌then◌else◌}
use Rattle.std.specs.List.{All, flat_map, list_all}
use Rattle.room_spec.specs.Rooms.{RoomSpec}
use Rattle.history_checker.specs.Verdicts.{FedEvent, IsTaskAnswer, IsVerdict, fed_to}
use Rattle.history_checker.specs.declared.verdict.Verdict.{Verdict}
use Rattle.history_checker.specs.declared.verdict.Verdict.TheVariants.{Run, Broken}
use Rattle.history_checker.specs.declared.verdict.TaskVerdict.{TaskVerdict}
use Rattle.history_checker.specs.declared.verdict.TaskVerdict.TheVariants as tasks
use Rattle.room_files.specs.Reports.{task_line, verdict_line}
use Rattle.room_files.specs.declared.outcome.Outcome.{Outcome}
use Rattle.room_files.specs.declared.outcome.Outcome.TheVariants.{AllWell, SomeRefused}

abbrev pub outcome_status : Outcome → ℕ
outcome_status AllWell = 0
outcome_status SomeRefused = 1

abbrev pub outcome_if : Bool → Outcome
outcome_if well = if well then AllWell else SomeRefused

pub record Judged : Type 0 where
  pub room : RoomSpec
  pub verdict : Verdict
  -- whether the decisions keep the room's task, if it has one
  pub task : Option TaskVerdict

-- both rest on nothing but what was fed of the room
abbrev pub IsJustified : List FedEvent → Judged → Type 0
IsJustified fed one = IsVerdict one.room (fed_to one.room.name fed) one.verdict × IsTaskAnswer one.room (fed_to one.room.name fed) one.task

abbrev pub judged_line : Judged → List ℕ
judged_line one = verdict_line one.room.name one.verdict ++ task_line one.room.name one.verdict one.task

-- a run, and no task is broken
abbrev pub is_well : Verdict → Option TaskVerdict → Bool
is_well (Broken line) task = false
is_well Run (Some (tasks.Broken line)) = false
is_well Run task = true

-- all is well if no block was refused, each room's events are a run, and no task is broken
abbrev pub outcome_of : List ℕ → List Judged → Outcome
outcome_of refused all = outcome_if ((length refused == 0) && list_all (λ one. is_well one.verdict one.task) all)

-- the verdicts on the rooms, in order, and the output
pub record IsOutput (rooms : List RoomSpec) (refused : List ℕ) (fed : List FedEvent) (outcome : Outcome) (output : List ℕ) : Type 0 where
  pub all : List Judged
  pub each_room : map (λ one. one.room) all ≡ rooms
  pub justified : All (IsJustified fed) all
  pub output_is : output ≡ refused ++ flat_map judged_line all
  pub outcome_is : outcome ≡ outcome_of refused all
