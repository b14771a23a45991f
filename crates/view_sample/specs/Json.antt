-- A sample as JSON: an object a line.
use Rattle.std.specs.Prelude.{ℕ, Bool, true, List, length, map, Option, Some, None, if◌then◌else◌, codes}
use Rattle.std.specs.List.{flat_map}
use Rattle.serde_json.specs.Data.{Data, array, boolean, member, no_members, null, number, object, string, unsigned}
use Rattle.serde_json.specs.View.{items_of}
use Rattle.json_lines.specs.Lines.{json_line}
use Rattle.json_lines.specs.Values.{processes_data}
use Rattle.room_spec.specs.Rooms.{RoomSpec}
use Rattle.room_sample.specs.Samples.{Counted}
use Rattle.room_sample.specs.Shown.{Shown}
use Rattle.room_sample.specs.declared.sampling.Plan.{Plan}
use Rattle.room_sample.specs.declared.stretch.Stretch.{Stretch}
use Rattle.room_sample.specs.declared.stretch.Stretch.TheVariants.{Steps, Crash}
use Rattle.view_sample.specs.Counts.{held_in, most_of, once_in, values_in}
use Rattle.view_sample.specs.Tasks.{times_broken}

abbrev pub stretch_data : Stretch → Data
stretch_data (Steps simulator count) = object (member (codes "simulator") (number (unsigned simulator)) (member (codes "steps") (number (unsigned count)) no_members))
stretch_data (Crash simulator) = object (member (codes "crash") (boolean true) (member (codes "simulator") (number (unsigned simulator)) no_members))

abbrev pub schedule_data : List Stretch → Data
schedule_data schedule = array (items_of (map stretch_data schedule))

abbrev pub schedule_unless : Bool → List Stretch → Data
schedule_unless brief schedule = if brief then null else schedule_data schedule

-- an outcome: the number of the first schedule that led to it, the states of the processes in it, a schedule that leads there, and how often it came
abbrev pub outcome_data : List ℕ → Bool → Shown → Data
outcome_data name brief one =
    object (member (codes "first") (number (unsigned one.first)) (member (codes "processes") (processes_data one.states) (member (codes "room") (string name)
    (member (codes "schedule") (schedule_unless brief one.schedule) (member (codes "times") (number (unsigned one.times)) no_members)))))

abbrev pub outcome_line : List ℕ → Bool → Shown → List ℕ
outcome_line name brief one = json_line (outcome_data name brief one)

abbrev pub outcome_lines : List ℕ → Bool → List Shown → List ℕ
outcome_lines name brief shown = flat_map (outcome_line name brief) shown

abbrev pub broken_by : Option ℕ → RoomSpec → List Counted → Data
broken_by None spec outcomes = null
broken_by (Some most) spec outcomes = number (unsigned (times_broken spec outcomes))

-- in how many schedules the room's task was broken, if it has one
abbrev pub broken_data : RoomSpec → List Counted → Data
broken_data spec outcomes = broken_by spec.task spec outcomes

-- a room, the plan of its sample, and what is said of all outcomes
abbrev pub room_data : RoomSpec → Plan → List Counted → Data
room_data spec plan outcomes =
    object (member (codes "crashes") (number (unsigned plan.crashes)) (member (codes "decided_at_most") (number (unsigned (most_of values_in outcomes)))
    (member (codes "from") (number (unsigned plan.from)) (member (codes "grouped") (boolean plan.group) (member (codes "held_at_most") (number (unsigned (most_of held_in outcomes))) (member (codes "once") (number (unsigned (once_in outcomes)))
    (member (codes "outcomes") (number (unsigned (length outcomes))) (member (codes "room") (string spec.name)
    (member (codes "schedules") (number (unsigned plan.schedules)) (member (codes "seed") (number (unsigned plan.seed))
    (member (codes "task_broken") (broken_data spec outcomes) no_members)))))))))))

abbrev pub room_line : RoomSpec → Plan → List Counted → List ℕ
room_line spec plan outcomes = json_line (room_data spec plan outcomes)

-- ---- a single outcome

-- how many outcomes there are, none of which has this number
abbrev pub none_data : List ℕ → ℕ → ℕ → Data
none_data name count n = object (member (codes "number") (number (unsigned n)) (member (codes "outcomes") (number (unsigned count)) (member (codes "room") (string name) no_members)))

abbrev pub alone_data : List ℕ → Bool → ℕ → ℕ → Option Shown → Data
alone_data name brief count n None = none_data name count n
alone_data name brief count n (Some one) = outcome_data name brief one

-- the outcome of this number; or, if there is none, how many outcomes there are
abbrev pub alone_line : List ℕ → Bool → ℕ → ℕ → Option Shown → List ℕ
alone_line name brief count n shown = json_line (alone_data name brief count n shown)
