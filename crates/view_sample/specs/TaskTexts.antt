-- What is written of a room's task.
use Rattle.std.specs.Prelude.{ℕ, Bool, ◌||◌, List, [], ◌++◌, Option, Some, None, is_none, if◌then◌else◌, codes}
use Rattle.room_spec.specs.Rooms.{RoomSpec}
use Rattle.room_sample.specs.Samples.{Counted}
use Rattle.room_sample.specs.Shown.{Shown}
use Rattle.view_sample.specs.Tasks.{first_broken, times_broken}
use Rattle.view_sample.specs.Texts.{number_line, number_words, script_unless}
use Rattle.room_sample.specs.declared.sampling.Plan.{Plan}
use Rattle.room_sample.specs.declared.stretch.Stretch.{Stretch}

-- each schedule kept the task
abbrev pub held_line : List ℕ → Plan → List ℕ
held_line name plan = number_line name (codes " task held in all") plan.schedules (codes " schedules (a sample, no proof)\n")

abbrev pub times_words : List ℕ → ℕ → List ℕ
times_words name times = number_line name (codes " task broken in") times (codes " of")

abbrev pub of_words : ℕ → List ℕ
of_words schedules = number_words schedules (codes " schedules\n")

-- in how many schedules it was broken
abbrev pub broken_line : List ℕ → Plan → ℕ → List ℕ
broken_line name plan times = times_words name times ++ of_words plan.schedules

-- with the script of one that broke it
abbrev pub broken_text : List ℕ → List ℕ → List ℕ → Plan → ℕ → List Stretch → List ℕ
broken_text words name block plan times schedule = broken_line words plan times ++ script_unless plan.brief name block schedule

-- what is said of the task, with the script of the first schedule that broke it; the line begins with these words
abbrev pub verdict_text : List ℕ → List ℕ → List ℕ → Plan → ℕ → Option Shown → List ℕ
verdict_text words name block plan times None = held_line words plan
verdict_text words name block plan times (Some one) = broken_text words name block plan times one.schedule

-- nothing is said of a room without a task
abbrev pub task_text : RoomSpec → List ℕ → Plan → List Counted → Option Shown → List ℕ
task_text spec block plan outcomes broken = if is_none spec.task then [] else verdict_text spec.name spec.name block plan (times_broken spec outcomes) broken

-- no schedule broke the task
abbrev pub has_held : RoomSpec → List Counted → Bool
has_held spec outcomes = is_none spec.task || is_none (first_broken spec outcomes)
