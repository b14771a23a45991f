-- No number in the JSON of a room has a fraction.
use Rattle.std.proofs.Common.{◌≡◌, ◌∙◌, ◌||◌, ℕ, false, List, Option, Some, None, refl, ap}
use Rattle.serde_json.specs.Data.{Data}
use Rattle.serde_json.specs.Written.{has_float}
use Rattle.json_lines.specs.Values.{entry_data, event_data, numbers_data, row_data}
use Rattle.json_lines.proofs.CallerLemmas.{both, event_is, items_are, numbers_are}
use Rattle.transcript.specs.declared.event.Event.{Event}
use Rattle.transcript.specs.declared.event.Event.TheVariants as events
use Rattle.protocol_lang.specs.declared.meaning.Action.{Action}
use Rattle.protocol_lang.specs.declared.meaning.Action.TheVariants as actions
use Rattle.history_checker.specs.declared.process.Turn.{Turn}
use Rattle.history_checker.specs.declared.process.Turn.TheVariants as turns
use Rattle.history_checker.specs.declared.reason.LastWrite.{LastWrite}
use Rattle.history_checker.specs.declared.reason.Reason.{Reason}
use Rattle.history_checker.specs.declared.reason.Reason.TheVariants.{NoProcess, OtherLength, OutOfTurn, OtherAction, WrongEntry, TooManyWrites}
use Rattle.history_checker.specs.declared.verdict.TaskVerdict.{TaskVerdict}
use Rattle.history_checker.specs.declared.verdict.TaskVerdict.TheVariants as tasks
use Rattle.history_checker.specs.declared.verdict.Verdict.{Verdict}
use Rattle.history_checker.specs.declared.verdict.Verdict.TheVariants.{Run, Broken}
use Rattle.view_why.specs.Json.{action_data, break_data, decision_data, decisions_data, excess_data, input_data, kept_data, reason_data, turn_data, why_data, written_data}
use Rattle.view_why.specs.Keeping as keeping
use Rattle.view_why.specs.Reported.{ReportedRoom, given_inputs}
use Rattle.view_why.specs.Why.{IsRoomData, IsTaskData}
use Rattle.view_why.specs.Words.{shown_of}
use Rattle.view_why.specs.declared.reported.Decision.{Decision}
use Rattle.view_why.specs.declared.reported.Disallowed.{Disallowed}
use Rattle.view_why.specs.declared.reported.LineBreak.{LineBreak}

entry_is : (entry : Option ℕ) → has_float (entry_data entry) ≡ false
entry_is None = refl
entry_is (Some v) = refl

written_is : (written : Option LastWrite) (earlier : Option ℕ) → has_float (written_data written earlier) ≡ false
written_is None earlier = refl
written_is (Some last) earlier = both (has_float (entry_data earlier)) false (entry_is earlier) refl

turn_is : (next : Turn) → has_float (turn_data next) ≡ false
turn_is (turns.Write v) = refl
turn_is turns.Snap = refl
turn_is (turns.Decide v) = refl
turn_is turns.Over = refl

action_is : (action : Action) → has_float (action_data action) ≡ false
action_is (actions.Write v) = refl
action_is (actions.Decide v) = refl

reason_is : (event : Event) (reason : Reason) (earlier : Option ℕ) → has_float (reason_data event reason earlier) ≡ false
reason_is event NoProcess earlier = refl
reason_is event OtherLength earlier = refl
reason_is event (OutOfTurn next) earlier = both (has_float (turn_data next)) false (turn_is next) refl
reason_is event (OtherAction asked) earlier = both (has_float (action_data asked)) false (action_is asked) refl
reason_is event (WrongEntry q written) earlier =
    let shown = has_float (entry_data (shown_of event q)) || false in
    both (has_float (written_data written earlier)) shown (written_is written earlier) (both (has_float (entry_data (shown_of event q))) false (entry_is (shown_of event q)) refl)
reason_is event TooManyWrites earlier = refl

why_is : (own : List ℕ) (event : Event) (reason : Option Reason) (earlier : Option ℕ) → has_float (why_data own event reason earlier) ≡ false
why_is own event None earlier = both (has_float (numbers_data own)) false (numbers_are own) refl
why_is own event (Some reason) earlier = reason_is event reason earlier

break_is : (own : List ℕ) (event : Event) (broken : LineBreak) → has_float (break_data own event broken) ≡ false
break_is own event broken =
    let reason = has_float (why_data own event broken.reason broken.earlier) in
    both (has_float (event_data event)) (reason || false) (event_is event) (both reason false (why_is own event broken.reason broken.earlier) refl)

input_is : (inputs : List ℕ) (event : Event) → has_float (input_data inputs event) ≡ false
input_is inputs (events.Write p v) = refl
input_is inputs (events.Snap p row) = refl
input_is inputs (events.Decide p v) = refl

excess_is : (inputs : List ℕ) (line : ℕ) (event : Event) (before : List Decision) → has_float (excess_data inputs line event before) ≡ false
excess_is inputs line event before =
    let of_event = has_float (event_data event) in
    let input = has_float (input_data inputs event) in
    both (has_float (decisions_data before)) (of_event || (input || false)) (items_are decision_data (λ one. refl) before)
    (both of_event (input || false) (event_is event) (both input false (input_is inputs event) refl))

kept_is : (most : Option ℕ) → has_float (kept_data most) ≡ false
kept_is None = refl
kept_is (Some most) = refl

task_is : (reported : ReportedRoom) (task : Option TaskVerdict) (it : Data) → IsTaskData reported task it → has_float it ≡ false
task_is reported None it is = ap has_float is ∙ kept_is reported.spec.task
task_is reported (Some tasks.Holds) it is = ap has_float is ∙ kept_is reported.spec.task
task_is reported (Some (tasks.Broken line)) it is =
    let why = is.2 in
    let exceeds = is.3 in
    ap has_float is.4 ∙ both (has_float why) false (ap has_float exceeds.is ∙ excess_is (given_inputs reported.spec) line exceeds.event exceeds.before) refl

pub room_is : (reported : ReportedRoom) (verdict : Verdict) (task : Option TaskVerdict) (it : Data) → IsRoomData reported verdict task it → has_float it ≡ false
room_is reported Run task it is = ap has_float is.2 ∙ both (has_float is.0) false (task_is reported task is.0 is.1) refl
room_is reported (Broken line) task it is = ap has_float is.2 ∙ both (has_float is.0) false (ap has_float is.1.is ∙ break_is reported.spec.own is.1.event is.1.broken) refl

-- ---- decisions

pub moment_is : (event : Event) (one : Disallowed) → has_float (keeping.moment_data event one) ≡ false
moment_is event one =
    let of_event = has_float (event_data event) in
    both (has_float (row_data one.moment.decisions.items)) (of_event || false) (items_are entry_data entry_is one.moment.decisions.items) (both of_event false (event_is event) refl)

pub decisions_are : (name : List ℕ) (broken : Data) → has_float broken ≡ false → has_float (keeping.decisions_data name broken) ≡ false
decisions_are name broken is = both (has_float (keeping.broken_data broken)) false (both (has_float broken) false is refl) refl
