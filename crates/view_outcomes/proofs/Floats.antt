-- No number in the JSON of outcomes and tasks has a fraction.
use Rattle.std.proofs.Common.{◌≡◌, Bool, true, false, ◌||◌, List, ℕ, Option, Some, None, refl}
use Rattle.std.specs.Prelude.{is_none}
use Rattle.std.specs.Global.{Vec}
use Rattle.std.specs.List.{filter, range_with_len}
use Rattle.serde_json.specs.Data.{Data, boolean, null}
use Rattle.serde_json.specs.Written.{has_float}
use Rattle.json_lines.specs.Values.{events_data, number_data, numbers_data}
use Rattle.json_lines.proofs.CallerLemmas.{both, events_are, items_are, numbers_are}
use Rattle.room_spec.specs.Rooms.{RoomSpec, processes}
use Rattle.transcript.specs.declared.event.Event.{Event}
use Rattle.run_search.specs.declared.ended.Ended.{Ended}
use Rattle.run_search.specs.declared.ended.Ended.TheVariants.{Decided, Spent, Stopped}
use Rattle.run_search.specs.declared.judging.Judgement.{Judgement}
use Rattle.run_search.specs.declared.judging.Judgement.TheVariants as judgements
use Rattle.decision_tasks.specs.declared.judging.DecisionJudgement.{DecisionJudgement}
use Rattle.decision_tasks.specs.declared.judging.DecisionJudgement.TheVariants as decided
use Rattle.view_outcomes.specs.declared.listing.AllOutcomes.{AllOutcomes}
use Rattle.view_outcomes.specs.declared.listing.Listed.{Listed}
use Rattle.view_outcomes.specs.Counts.{can_be_spent}
use Rattle.view_outcomes.specs.Json.{agreed_data, broken_unless, decisions_data, end_data, ends_data, found_data, judgement_data, outcome_data, room_decisions_data, room_task_data, room_vectors_data, run_data, spent_data, task_data, too_many_data, unfinished_data, unjudged_data, unsearched_data, vectors_data, verdict_data}

-- a value in front of others
next : (value : Data) (rest : Bool) → has_float value ≡ false → rest ≡ false → (has_float value || rest) ≡ false
next value rest first others = both (has_float value) rest first others

-- the last one
last : (value : Data) → has_float value ≡ false → (has_float value || false) ≡ false
last value is = both (has_float value) false is refl

end_is : (ended : Ended) → has_float (end_data ended) ≡ false
end_is (Decided v) = refl
end_is Spent = refl
end_is Stopped = refl

ends_are : (ends : List Ended) → has_float (ends_data ends) ≡ false
ends_are ends = items_are end_data end_is ends

run_is : (run : Option (Vec Event)) → has_float (run_data run) ≡ false
run_is None = refl
run_is (Some events) = events_are events.items

pub outcome_is : (name : List ℕ) (one : Listed) → has_float (outcome_data name one) ≡ false
outcome_is name one = next (run_data one.events) (has_float (ends_data one.ends.items) || false) (run_is one.events) (last (ends_data one.ends.items) (ends_are one.ends.items))

task_is : (task : Option ℕ) (broken kept : Data) → has_float broken ≡ false → has_float kept ≡ false → has_float (task_data task broken kept) ≡ false
task_is None broken kept first second = refl
task_is (Some most) broken kept first second = next broken (has_float kept || false) first (last kept second)

room_task_is : (spec : RoomSpec) (limit : ℕ) (nodes broken kept : Data) → has_float nodes ≡ false → has_float broken ≡ false → has_float kept ≡ false → has_float (room_task_data spec limit nodes broken kept) ≡ false
room_task_is spec limit nodes broken kept of_nodes of_broken of_kept =
    let task = task_data spec.task broken kept in
    next (numbers_data spec.inputs) (has_float nodes || (has_float task || false)) (numbers_are spec.inputs)
    (next nodes (has_float task || false) of_nodes (last task (task_is spec.task broken kept of_broken of_kept)))

unless_is : (brief : Bool) (events : List Event) → has_float (broken_unless brief events) ≡ false
unless_is true events = refl
unless_is false events = events_are events

pub judgement_is : (brief : Bool) (spec : RoomSpec) (limit : ℕ) (judgement : Judgement) → has_float (judgement_data brief spec limit judgement) ≡ false
judgement_is brief spec limit (judgements.Kept nodes) = room_task_is spec limit (number_data nodes) null (boolean true) refl refl refl
judgement_is brief spec limit (judgements.Broken events) = room_task_is spec limit null (broken_unless brief events.items) (boolean false) refl (unless_is brief events.items) refl

pub unjudged_is : (spec : RoomSpec) (limit : ℕ) → has_float (unjudged_data spec limit) ≡ false
unjudged_is spec limit = room_task_is spec limit null null null refl refl refl

pub found_is : (spec : RoomSpec) (crashes limit : ℕ) (all : AllOutcomes) → has_float (found_data spec crashes limit all) ≡ false
found_is spec crashes limit all =
    let spent = spent_data (processes spec) all.listed.items in
    let task = task_data spec.task (run_data all.breaking) (boolean (is_none all.breaking)) in
    next spent (has_float task || false) (numbers_are (filter (can_be_spent all.listed.items) (range_with_len 0 (processes spec)))) (last task (task_is spec.task (run_data all.breaking) (boolean (is_none all.breaking)) (run_is all.breaking) refl))

pub unfinished_is : (spec : RoomSpec) (crashes limit : ℕ) → has_float (unfinished_data spec crashes limit) ≡ false
unfinished_is spec crashes limit = last (task_data spec.task null null) (task_is spec.task null null refl refl)

room_vectors_are : (spec : RoomSpec) (limit : ℕ) (values : List ℕ) (kept count : Data) → has_float kept ≡ false → has_float count ≡ false → has_float (room_vectors_data spec limit values kept count) ≡ false
room_vectors_are spec limit values kept count of_kept of_count =
    next kept (has_float (numbers_data values) || (has_float count || false)) of_kept (next (numbers_data values) (has_float count || false) (numbers_are values) (last count of_count))

pub vectors_are : (spec : RoomSpec) (limit : ℕ) (values : List ℕ) (kept count : ℕ) → has_float (vectors_data spec limit values kept count) ≡ false
vectors_are spec limit values kept count = room_vectors_are spec limit values (number_data kept) (number_data count) refl refl

pub too_many_are : (spec : RoomSpec) (limit : ℕ) (values : List ℕ) → has_float (too_many_data spec limit values) ≡ false
too_many_are spec limit values = room_vectors_are spec limit values null null refl refl

pub agreed_is : (name inputs : List ℕ) → has_float (agreed_data name inputs) ≡ false
agreed_is name inputs = next (numbers_data inputs) false (numbers_are inputs) refl

room_decisions_are : (spec : RoomSpec) (limit : ℕ) (nodes verdict : Data) → has_float nodes ≡ false → has_float verdict ≡ false → has_float (room_decisions_data spec limit nodes verdict) ≡ false
room_decisions_are spec limit nodes verdict of_nodes of_verdict = next verdict (has_float nodes || false) of_verdict (last nodes of_nodes)

pub decisions_are : (spec : RoomSpec) (limit : ℕ) (judgement : DecisionJudgement) → has_float (decisions_data spec limit judgement) ≡ false
decisions_are spec limit (decided.Kept nodes) = room_decisions_are spec limit (number_data nodes) (verdict_data null (boolean true) null null) refl refl
decisions_are spec limit (decided.Broken break) =
    room_decisions_are spec limit null (verdict_data (events_data break.events.items) (boolean false) (number_data break.process) (number_data break.value)) refl
    (next (events_data break.events.items) false (events_are break.events.items) refl)

pub unsearched_is : (spec : RoomSpec) (limit : ℕ) → has_float (unsearched_data spec limit) ≡ false
unsearched_is spec limit = room_decisions_are spec limit null (verdict_data null null null null) refl refl
