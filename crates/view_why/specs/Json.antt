-- What is said of a room of a transcript as JSON.
use Rattle.std.specs.Prelude.{◌≡◌, ℕ, ◌==◌, List, map, Option, Some, None, codes, slice_get}
use Rattle.std.specs.List.{list_any}
use Rattle.serde_json.specs.Data.{Data, array, boolean, member, no_members, null, number, object, string, unsigned}
use Rattle.serde_json.specs.View.{items_of}
use Rattle.json_lines.specs.Values.{entry_data, event_data, numbers_data}
use Rattle.protocol_lang.specs.declared.meaning.Action.{Action}
use Rattle.protocol_lang.specs.declared.meaning.Action.TheVariants as actions
use Rattle.history_checker.specs.declared.process.Turn.{Turn}
use Rattle.history_checker.specs.declared.process.Turn.TheVariants as turns
use Rattle.history_checker.specs.declared.reason.LastWrite.{LastWrite}
use Rattle.history_checker.specs.declared.reason.Reason.{Reason}
use Rattle.history_checker.specs.declared.reason.Reason.TheVariants.{NoProcess, OtherLength, OutOfTurn, OtherAction, WrongEntry, TooManyWrites}
use Rattle.transcript.specs.declared.event.Event.{Event}
use Rattle.transcript.specs.declared.event.Event.TheVariants as events
use Rattle.view_why.specs.Reported.{AreDecidedBefore, IsExcess, IsLineBreak, ReportedRoom, given_inputs}
use Rattle.view_why.specs.Words.{shown_of}
use Rattle.view_why.specs.declared.reported.Decision.{Decision}
use Rattle.view_why.specs.declared.reported.Excess.{Excess}
use Rattle.view_why.specs.declared.reported.LineBreak.{LineBreak}

-- ---- why an event may not come

-- a write or a decision of a value, by its word
abbrev pub asked_data : List ℕ → ℕ → Data
asked_data word v = object (member (codes "event") (string word) (member (codes "value") (number (unsigned v)) no_members))

-- what the protocol asks for
abbrev pub action_data : Action → Data
action_data (actions.Write v) = asked_data (codes "write") v
action_data (actions.Decide v) = asked_data (codes "decide") v

-- what a process may do next, if something is left for it to do
abbrev pub turn_data : Turn → Data
turn_data (turns.Write v) = asked_data (codes "write") v
turn_data turns.Snap = object (member (codes "event") (string (codes "snap")) no_members)
turn_data (turns.Decide v) = asked_data (codes "decide") v
turn_data turns.Over = null

-- the last write of a process, and its line; nothing if it has not written
abbrev pub written_data : Option LastWrite → Option ℕ → Data
written_data None earlier = null
written_data (Some last) earlier = object (member (codes "line") (entry_data earlier) (member (codes "value") (number (unsigned last.value)) no_members))

-- a reason that has nothing but its kind
abbrev pub kind_data : List ℕ → Data
kind_data kind = object (member (codes "kind") (string kind) no_members)

-- and one with what is expected
abbrev pub expected_data : Data → List ℕ → Data
expected_data expected kind = object (member (codes "expected") expected (member (codes "kind") (string kind) no_members))

abbrev pub reason_data : Event → Reason → Option ℕ → Data
reason_data event NoProcess earlier = kind_data (codes "process")
reason_data event OtherLength earlier = kind_data (codes "length")
reason_data event (OutOfTurn next) earlier = expected_data (turn_data next) (codes "turn")
reason_data event (OtherAction asked) earlier = expected_data (action_data asked) (codes "protocol")
reason_data event (WrongEntry q written) earlier =
    object (member (codes "expected") (written_data written earlier) (member (codes "kind") (string (codes "entry")) (member (codes "process") (number (unsigned q))
    (member (codes "shown") (entry_data (shown_of event q)) no_members))))
reason_data event TooManyWrites earlier = kind_data (codes "rounds")

-- from none of these inputs it may come
abbrev pub no_input_data : List ℕ → Data
no_input_data own = object (member (codes "inputs") (numbers_data own) (member (codes "kind") (string (codes "inputs")) no_members))

-- why an event may not come in a room whose simulators have these inputs of their own
abbrev pub why_data : List ℕ → Event → Option Reason → Option ℕ → Data
why_data own event None earlier = no_input_data own
why_data own event (Some reason) earlier = reason_data event reason earlier

-- the line that breaks a run, its event, and why it may not come
abbrev pub break_data : List ℕ → Event → LineBreak → Data
break_data own event broken =
    object (member (codes "event") (event_data event) (member (codes "line") (number (unsigned broken.line)) (member (codes "reason") (why_data own event broken.reason broken.earlier) no_members)))

-- the first line that breaks the room's run
pub record IsBreakData (reported : ReportedRoom) (line : ℕ) (it : Data) : Type 0 where
  pub broken : LineBreak
  pub breaks : IsLineBreak reported broken
  pub line_is : broken.line ≡ line
  pub event : Event
  pub there : slice_get reported.events broken.at ≡ Some event
  pub is : it ≡ break_data reported.spec.own event broken

-- ---- why a task doesn't allow a decision

abbrev pub decision_data : Decision → Data
decision_data one = object (member (codes "line") (number (unsigned one.line)) (member (codes "value") (number (unsigned one.value)) no_members))

abbrev pub decisions_data : List Decision → Data
decisions_data all = array (items_of (map decision_data all))

-- whether the value that the event decides is one of these inputs
abbrev pub input_data : List ℕ → Event → Data
input_data inputs (events.Write p v) = null
input_data inputs (events.Snap p row) = null
input_data inputs (events.Decide p v) = boolean (list_any (λ input. input == v) inputs)

-- the line that breaks a task, its event, whether its value is an input, and the different values that were decided before
abbrev pub excess_data : List ℕ → ℕ → Event → List Decision → Data
excess_data inputs line event before =
    object (member (codes "decided") (decisions_data before) (member (codes "event") (event_data event) (member (codes "input") (input_data inputs event) (member (codes "line") (number (unsigned line)) no_members))))

-- the first line that breaks the room's task
pub record IsExcessData (reported : ReportedRoom) (line : ℕ) (it : Data) : Type 0 where
  pub excess : Excess
  pub exceeds : IsExcess reported excess
  pub line_is : excess.line ≡ line
  pub event : Event
  pub there : slice_get reported.events excess.at ≡ Some event
  pub before : List Decision
  pub decided : AreDecidedBefore reported excess.at before
  pub is : it ≡ excess_data (given_inputs reported.spec) line event before

-- ---- a room

-- how many values the task allows, and what breaks it
abbrev pub task_data : ℕ → Data → Data
task_data most broken = object (member (codes "allows") (number (unsigned most)) (member (codes "break") broken no_members))

-- a task that holds, if there is one
abbrev pub kept_data : Option ℕ → Data
kept_data None = null
kept_data (Some most) = task_data most null

-- what breaks the room's run; else what is said of its task
abbrev pub room_data : List ℕ → Data → Data → Data
room_data name broken task = object (member (codes "break") broken (member (codes "room") (string name) (member (codes "task") task no_members)))
