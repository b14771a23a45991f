-- What is written of all outcomes of a room.
use Rattle.std.specs.Prelude.{ℕ, List, [], ◌∷◌, ◌++◌, length, map, Option, None, Some, if◌then◌else◌, codes, decimal, option_map, slice_index_or}
use Rattle.std.specs.List.{concat, list_any, range_with_len}
use Rattle.std.specs.Global.{Vec}
use Rattle.room_spec.specs.Rooms.{RoomSpec, processes}
use Rattle.room_files.specs.BlockLists.{whole_block}
use Rattle.transcript.specs.declared.event.Event.{Event}
use Rattle.report_text.specs.ReportTexts.{event_lines}
use Rattle.run_search.specs.declared.ended.Ended.{Ended}
use Rattle.run_search.specs.declared.ended.Ended.TheVariants.{Decided, Spent, Stopped}
use Rattle.run_search.specs.declared.judging.Judgement.{Judgement}
use Rattle.run_search.specs.declared.judging.Judgement.TheVariants.{Kept, Broken}
use Rattle.view_outcomes.specs.declared.listing.AllOutcomes.{AllOutcomes}
use Rattle.view_outcomes.specs.declared.listing.Listed.{Listed}
use Rattle.view_outcomes.specs.Counts.{can_be_spent, has_spent, most_values}

-- ---- one outcome

abbrev pub end_words : Ended → List ℕ
end_words (Decided v) = codes " decided" ++ ((32 ∷ decimal v) ++ codes "\n")
end_words Spent = codes " spent\n"
end_words Stopped = codes " stopped\n"

abbrev pub end_line : List ℕ → ℕ → Ended → List ℕ
end_line name p ended = (name ++ codes " process") ++ ((32 ∷ decimal p) ++ end_words ended)

-- how each process ends
abbrev pub end_lines : List ℕ → List Ended → List ℕ
end_lines name ends = concat (map (λ p. end_line name p (slice_index_or ends p Stopped)) (range_with_len 0 (length ends)))

-- a transcript of these events
abbrev pub transcript_text : List ℕ → List ℕ → List Event → List ℕ
transcript_text name block events = whole_block block ++ (codes "events\n" ++ event_lines name events)

abbrev pub transcript_if : List ℕ → List ℕ → Option (Vec Event) → List ℕ
transcript_if name block None = []
transcript_if name block (Some events) = transcript_text name block events.items

abbrev pub outcome_text : List ℕ → List ℕ → Listed → List ℕ
outcome_text name block one = codes "\n" ++ (end_lines name one.ends.items ++ transcript_if name block one.events)

-- how many outcomes there are that are not shown
abbrev pub more_line : List ℕ → ℕ → List ℕ
more_line name more = (codes "\n" ++ name) ++ (codes " has" ++ ((32 ∷ decimal more) ++ codes " more outcomes\n"))

-- ---- a single outcome

abbrev pub count_words : List ℕ → ℕ → List ℕ
count_words name count = (name ++ codes " has") ++ ((32 ∷ decimal count) ++ codes " outcomes, and none has the number")

-- how many outcomes there are, none of which has this number
abbrev pub none_line : List ℕ → ℕ → ℕ → List ℕ
none_line name number count = count_words name count ++ ((32 ∷ decimal number) ++ codes "\n")

-- the transcript of the outcome of this number; or, if there is none, how many outcomes there are
abbrev pub alone_text : List ℕ → List ℕ → ℕ → ℕ → Option Listed → List ℕ
alone_text name block number count None = none_line name number count
alone_text name block number count (Some one) = transcript_if name block one.events

-- ---- what they have in common

abbrev pub most_line : List ℕ → List Listed → List ℕ
most_line name all = (codes "\n" ++ name) ++ (codes " decided at most" ++ ((32 ∷ decimal (most_values all)) ++ codes " values\n"))

abbrev pub spent_line : List ℕ → ℕ → List ℕ
spent_line name p = (name ++ codes " process") ++ ((32 ∷ decimal p) ++ codes " can be spent\n")

abbrev pub spent_line_if : List ℕ → List Listed → ℕ → List ℕ
spent_line_if name all p = if can_be_spent all p then spent_line name p else []

abbrev pub spent_lines : List ℕ → ℕ → List Listed → List ℕ
spent_lines name n all = concat (map (spent_line_if name all) (range_with_len 0 n))

abbrev pub none_spent_if : List ℕ → List Listed → List ℕ
none_spent_if name all = if list_any (λ one. has_spent one.ends.items) all then [] else name ++ codes " no process can be spent\n"

-- ---- the task

abbrev pub breaking_text : List ℕ → List ℕ → List Event → List ℕ
breaking_text name block events = (name ++ codes " task broken by this run:\n") ++ transcript_text name block events

-- a room without a task has no line of it
abbrev pub task_text : List ℕ → List ℕ → Option ℕ → Option (List Event) → List ℕ
task_text name block None breaking = []
task_text name block (Some most) None = name ++ codes " task holds in every run\n"
task_text name block (Some most) (Some events) = breaking_text name block events

-- ---- a room

abbrev pub head_line : List ℕ → ℕ → List ℕ
head_line name crashes = (name ++ codes " outcomes crashes") ++ ((32 ∷ decimal crashes) ++ codes "\n")

-- how many outcomes there are, and how many nodes stand for the states of all runs
abbrev pub complete_line : AllOutcomes → List ℕ
complete_line all = (codes "these are all outcomes:" ++ ((32 ∷ decimal (length all.listed.items)) ++ codes " of them,")) ++ ((32 ∷ decimal all.nodes) ++ codes " nodes searched\n")

-- what may help is said after the limit
abbrev pub unfinished_line : ℕ → List ℕ → List ℕ
unfinished_line limit advice = codes "more than" ++ ((32 ∷ decimal limit) ++ advice)

abbrev pub advice : List ℕ
advice = codes " nodes: not searched to the end; try a greater --nodes, fewer rounds, or sample\n"

-- what is said after the outcomes
abbrev pub common_text : RoomSpec → List ℕ → AllOutcomes → List ℕ
common_text spec block all =
    most_line spec.name all.listed.items
    ++ ((spent_lines spec.name (processes spec) all.listed.items ++ none_spent_if spec.name all.listed.items)
    ++ (task_text spec.name block spec.task (option_map (λ events. events.items) all.breaking) ++ complete_line all))

-- ---- only the task

abbrev pub taskless_line : List ℕ → List ℕ
taskless_line name = name ++ codes " has no task\n"

-- how many nodes stand for the states of all runs
abbrev pub all_runs_line : ℕ → List ℕ
all_runs_line nodes = codes "these are all runs:" ++ ((32 ∷ decimal nodes) ++ codes " nodes searched\n")

-- each run keeps the task, or this one breaks it
abbrev pub judgement_text : List ℕ → List ℕ → Judgement → List ℕ
judgement_text name block (Kept nodes) = (name ++ codes " task holds in every run\n") ++ all_runs_line nodes
judgement_text name block (Broken events) = breaking_text name block events.items

-- no run that was searched breaks the task
abbrev pub unjudged_text : List ℕ → ℕ → List ℕ
unjudged_text name limit = (name ++ codes " task holds so far\n") ++ unfinished_line limit advice
