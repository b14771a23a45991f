-- What is said of outcomes and tasks as JSON.
use Rattle.std.specs.Prelude.{ℕ, Bool, true, false, List, length, map, Option, Some, None, is_none, codes}
use Rattle.std.specs.List.{filter, range_with_len}
use Rattle.std.specs.Global.{Vec}
use Rattle.serde_json.specs.Data.{Data, array, boolean, member, no_members, null, object, string}
use Rattle.serde_json.specs.View.{items_of}
use Rattle.json_lines.specs.Values.{events_data, number_data, numbers_data}
use Rattle.room_spec.specs.Rooms.{RoomSpec, processes}
use Rattle.transcript.specs.declared.event.Event.{Event}
use Rattle.run_search.specs.declared.ended.Ended.{Ended}
use Rattle.run_search.specs.declared.ended.Ended.TheVariants.{Decided, Spent, Stopped}
use Rattle.run_search.specs.declared.judging.Judgement.{Judgement}
use Rattle.run_search.specs.declared.judging.Judgement.TheVariants as judgements
use Rattle.decision_tasks.specs.declared.judging.Break.{Break}
use Rattle.decision_tasks.specs.declared.judging.DecisionJudgement.{DecisionJudgement}
use Rattle.decision_tasks.specs.declared.judging.DecisionJudgement.TheVariants as decided
use Rattle.view_outcomes.specs.declared.listing.AllOutcomes.{AllOutcomes}
use Rattle.view_outcomes.specs.declared.listing.Listed.{Listed}
use Rattle.view_outcomes.specs.Counts.{can_be_spent, most_values}

-- ---- one outcome

abbrev pub end_data : Ended → Data
end_data (Decided v) = object (member (codes "state") (string (codes "decided")) (member (codes "value") (number_data v) no_members))
end_data Spent = object (member (codes "state") (string (codes "spent")) no_members)
end_data Stopped = object (member (codes "state") (string (codes "stopped")) no_members)

-- how each process ends
abbrev pub ends_data : List Ended → Data
ends_data ends = array (items_of (map end_data ends))

-- the events of a run, if there is one
abbrev pub run_data : Option (Vec Event) → Data
run_data None = null
run_data (Some events) = events_data events.items

-- how each process ends, and a run that ends so, unless runs are left out
abbrev pub outcome_data : List ℕ → Listed → Data
outcome_data name one = object (member (codes "events") (run_data one.events) (member (codes "processes") (ends_data one.ends.items) (member (codes "room") (string name) no_members)))

-- how many outcomes there are, none of which has this number
abbrev pub none_data : List ℕ → ℕ → ℕ → Data
none_data name number count = object (member (codes "number") (number_data number) (member (codes "outcomes") (number_data count) (member (codes "room") (string name) no_members)))

-- the outcome of this number; or, if there is none, how many outcomes there are
abbrev pub alone_data : List ℕ → ℕ → ℕ → Option Listed → Data
alone_data name number count None = none_data name number count
alone_data name number count (Some one) = outcome_data name one

-- ---- a task

-- how many values a room's task allows, a run that breaks it, and whether each run keeps it; `null` for a room without a task
abbrev pub task_data : Option ℕ → Data → Data → Data
task_data None broken kept = null
task_data (Some most) broken kept = object (member (codes "allows") (number_data most) (member (codes "broken_by") broken (member (codes "kept") kept no_members)))

-- the room, its inputs, and what is said of its task: after how many nodes that stand for the states of all runs
abbrev pub room_task_data : RoomSpec → ℕ → Data → Data → Data → Data
room_task_data spec limit nodes broken kept =
    object (member (codes "inputs") (numbers_data spec.inputs) (member (codes "limit") (number_data limit) (member (codes "nodes") nodes (member (codes "room") (string spec.name)
    (member (codes "task") (task_data spec.task broken kept) no_members)))))

-- a run that breaks a task, unless runs are left out
abbrev pub broken_unless : Bool → List Event → Data
broken_unless true events = null
broken_unless false events = events_data events

-- each run keeps the room's task, or this one breaks it
abbrev pub judgement_data : Bool → RoomSpec → ℕ → Judgement → Data
judgement_data brief spec limit (judgements.Kept nodes) = room_task_data spec limit (number_data nodes) null (boolean true)
judgement_data brief spec limit (judgements.Broken events) = room_task_data spec limit null (broken_unless brief events.items) (boolean false)

-- the room has no task, or more nodes than the limit, and no run that was searched breaks its task
abbrev pub unjudged_data : RoomSpec → ℕ → Data
unjudged_data spec limit = room_task_data spec limit null null null

-- ---- all outcomes

-- what all outcomes have in common, and what is said of the task; after a search that was not complete, `null` for what isn't known
abbrev pub room_data : RoomSpec → ℕ → ℕ → Bool → Data → Data → Data → Data → Data → Data
room_data spec crashes limit complete values nodes count spent task =
    object (member (codes "complete") (boolean complete) (member (codes "crashes") (number_data crashes) (member (codes "decided_at_most") values
    (member (codes "limit") (number_data limit) (member (codes "nodes") nodes (member (codes "outcomes") count (member (codes "room") (string spec.name)
    (member (codes "spent") spent (member (codes "task") task no_members)))))))))

-- the processes that can be spent, of the first n
abbrev pub spent_data : ℕ → List Listed → Data
spent_data n all = numbers_data (filter (can_be_spent all) (range_with_len 0 n))

abbrev pub found_data : RoomSpec → ℕ → ℕ → AllOutcomes → Data
found_data spec crashes limit all =
    room_data spec crashes limit true (number_data (most_values all.listed.items)) (number_data all.nodes) (number_data (length all.listed.items)) (spent_data (processes spec) all.listed.items)
    (task_data spec.task (run_data all.breaking) (boolean (is_none all.breaking)))

-- the room has more nodes than the limit
abbrev pub unfinished_data : RoomSpec → ℕ → ℕ → Data
unfinished_data spec crashes limit = room_data spec crashes limit false null null null null (task_data spec.task null null)

-- ---- all vectors of inputs

-- for how many of how many vectors each run keeps the task; `null` for both if they are too many
abbrev pub room_vectors_data : RoomSpec → ℕ → List ℕ → Data → Data → Data
room_vectors_data spec limit values kept count =
    object (member (codes "kept") kept (member (codes "limit") (number_data limit) (member (codes "room") (string spec.name) (member (codes "values") (numbers_data values) (member (codes "vectors") count no_members)))))

abbrev pub vectors_data : RoomSpec → ℕ → List ℕ → ℕ → ℕ → Data
vectors_data spec limit values kept count = room_vectors_data spec limit values (number_data kept) (number_data count)

abbrev pub too_many_data : RoomSpec → ℕ → List ℕ → Data
too_many_data spec limit values = room_vectors_data spec limit values null null

-- the inputs on which the simulators of a reduction agree; what is said of the room that has them follows
abbrev pub agreed_data : List ℕ → List ℕ → Data
agreed_data name inputs = object (member (codes "inputs") (numbers_data inputs) (member (codes "room") (string name) no_members))

-- ---- a task of one's own

-- a run that breaks it, whether each run keeps it, and which process decided which value, in that run, that no line allows
abbrev pub verdict_data : Data → Data → Data → Data → Data
verdict_data broken kept process value = object (member (codes "broken_by") broken (member (codes "kept") kept (member (codes "process") process (member (codes "value") value no_members))))

abbrev pub room_decisions_data : RoomSpec → ℕ → Data → Data → Data
room_decisions_data spec limit nodes verdict =
    object (member (codes "decisions") verdict (member (codes "limit") (number_data limit) (member (codes "nodes") nodes (member (codes "room") (string spec.name) no_members))))

abbrev pub break_data : Break → Data
break_data break = verdict_data (events_data break.events.items) (boolean false) (number_data break.process) (number_data break.value)

abbrev pub decisions_data : RoomSpec → ℕ → DecisionJudgement → Data
decisions_data spec limit (decided.Kept nodes) = room_decisions_data spec limit (number_data nodes) (verdict_data null (boolean true) null null)
decisions_data spec limit (decided.Broken break) = room_decisions_data spec limit null (break_data break)

-- the room has more nodes than the limit
abbrev pub unsearched_data : RoomSpec → ℕ → Data
unsearched_data spec limit = room_decisions_data spec limit null (verdict_data null null null null)
