-- Reasons in words.
use Rattle.std.specs.Prelude.{ℕ, Bool, true, false, ◌==◌, List, [], ◌∷◌, ◌++◌, Option, Some, None, codes, decimal, slice_index_or, if◌then◌else◌}
use Rattle.std.specs.List.{flat_map, list_any}
use Rattle.room_spec.specs.Rooms.{RoomSpec, is_reduction}
use Rattle.protocol_lang.specs.declared.meaning.Action.{Action}
use Rattle.protocol_lang.specs.declared.meaning.Action.TheVariants as actions
use Rattle.history_checker.specs.declared.process.Turn.{Turn}
use Rattle.history_checker.specs.declared.process.Turn.TheVariants as turns
use Rattle.history_checker.specs.declared.reason.LastWrite.{LastWrite}
use Rattle.history_checker.specs.declared.reason.Reason.{Reason}
use Rattle.history_checker.specs.declared.reason.Reason.TheVariants.{NoProcess, OtherLength, OutOfTurn, OtherAction, WrongEntry, TooManyWrites}
use Rattle.transcript.specs.declared.event.Event.{Event}
use Rattle.transcript.specs.declared.event.Event.TheVariants as events
use Rattle.transcript.specs.Runs.{process_of}
use Rattle.view_why.specs.Reported.{given_inputs}
use Rattle.view_why.specs.declared.reported.Decision.{Decision}

-- what an event shows of process q
abbrev pub shown_of : Event → ℕ → Option ℕ
shown_of (events.Write p v) q = None
shown_of (events.Snap p row) q = slice_index_or row.items q None
shown_of (events.Decide p v) q = None

-- a number between words
abbrev pub process_words : List ℕ → ℕ → List ℕ → List ℕ
process_words before number behind = before ++ ((32 ∷ decimal number) ++ behind)

abbrev pub line_words : Option ℕ → List ℕ
line_words None = []
line_words (Some line) = process_words (codes " (line") line (codes ")")

abbrev pub entry_words : Option ℕ → List ℕ
entry_words None = codes "nothing"
entry_words (Some v) = process_words (codes "the value") v []

abbrev pub written_words : Option LastWrite → Option ℕ → List ℕ
written_words None earlier = codes "nothing by then"
written_words (Some last) earlier = process_words (codes "the value") last.value [] ++ (codes " by then" ++ line_words earlier)

abbrev pub shown_words : ℕ → Option ℕ → List ℕ
shown_words q shown = process_words (codes "entry") q (codes " of the snapshot is ") ++ entry_words shown

abbrev pub lacking_words : ℕ → Option LastWrite → Option ℕ → List ℕ
lacking_words q written earlier = process_words (codes ", but process") q (codes " had written ") ++ written_words written earlier

abbrev pub action_words : Action → List ℕ
action_words (actions.Write v) = process_words (codes "write") v []
action_words (actions.Decide v) = process_words (codes "decide") v []

abbrev pub next_words : Turn → List ℕ
next_words (turns.Write v) = process_words (codes "it may write") v []
next_words turns.Snap = codes "it may take a snapshot"
next_words (turns.Decide v) = process_words (codes "it may decide") v []
next_words turns.Over = codes "nothing is left for it to do"

-- why an event may not come, with the line of the write that the reason rests on
abbrev pub reason_words : Event → Reason → Option ℕ → List ℕ
reason_words event NoProcess earlier = process_words (codes "the room has no process") (process_of event) []
reason_words event OtherLength earlier = codes "the snapshot hasn't one entry for each process"
reason_words event (OutOfTurn next) earlier = process_words (codes "process") (process_of event) (codes " can't do this now: ") ++ next_words next
reason_words event (OtherAction asked) earlier = process_words (codes "the protocol asks process") (process_of event) (codes " to ") ++ action_words asked
reason_words event (WrongEntry q written) earlier = shown_words q (shown_of event q) ++ lacking_words q written earlier
reason_words event TooManyWrites earlier = process_words (codes "process") (process_of event) (codes " has made all its writes")

-- from none of the simulators' own inputs, which are these, may the process of the event do this
abbrev pub inputs_words : List ℕ → Event → List ℕ
inputs_words own event = (codes "from none of the inputs" ++ flat_map (λ input. process_words [] input []) own) ++ process_words (codes " may process") (process_of event) (codes " do this here")

-- why an event may not come in a room whose simulators have these inputs of their own
abbrev pub break_words : List ℕ → Event → Option Reason → Option ℕ → List ℕ
break_words own event None earlier = inputs_words own event
break_words own event (Some reason) earlier = reason_words event reason earlier

-- ---- why a task doesn't allow a decision

abbrev pub decision_words : Decision → List ℕ
decision_words one = process_words (codes "line") one.line [] ++ process_words (codes " decided") one.value (codes "; ")

abbrev pub allowed_words : ℕ → List ℕ
allowed_words most = if most == 1 then codes "the task allows 1 value" else process_words (codes "the task allows") most (codes " values")

-- whose input a value isn't, by whether the room is a reduction
abbrev pub no_owner_words : Bool → List ℕ
no_owner_words false = codes "no process has this input"
no_owner_words true = codes "no simulator has this input"

-- no process has the value as its input, or in a reduction no simulator; or it is one too many after those that were decided before
abbrev pub excess_why : RoomSpec → ℕ → ℕ → List Decision → List ℕ
excess_why spec most v before =
    if list_any (λ input. input == v) (given_inputs spec) then flat_map decision_words before ++ allowed_words most else no_owner_words (is_reduction spec)

-- why a task of this many values doesn't allow an event after these decisions
abbrev pub excess_words : RoomSpec → ℕ → Event → List Decision → List ℕ
excess_words spec most (events.Write p v) before = []
excess_words spec most (events.Snap p row) before = []
excess_words spec most (events.Decide p v) before = process_words (codes "decides") v (codes "; ") ++ excess_why spec most v before
