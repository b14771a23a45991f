-- Tasks of one's own, and what keeps them.
use Rattle.std.specs.Prelude.{◌≡◌, ℕ, ◌<◌, ◌==◌, Bool, true, false, List, length, take, Option, Some, Result, Ok, Err, slice_get, slice_index_or, ◌+◌, [], ◌∷◌}
use Rattle.std.specs.List.{count_by, list_any}
use Rattle.protocol_lang.specs.Meaning.{next_action}
use Rattle.protocol_lang.specs.Reading.{reading}
use Rattle.protocol_lang.specs.Trees.{Tree}
use Rattle.protocol_lang.specs.FirstFaults.{place_of}
use Rattle.protocol_lang.specs.declared.meaning.Action.{Action}
use Rattle.protocol_lang.specs.declared.meaning.Action.TheVariants.{Write, Decide}
use Rattle.room_spec.specs.Rooms.{RoomSpec}
use Rattle.transcript.specs.declared.event.Event.{Event}
use Rattle.transcript.specs.Runs.{IsRun}
use Rattle.run_search.specs.Judging.{HasNodes}
use Rattle.protocol_lang.specs.declared.fault.ParseFault.{ParseFault}
use Rattle.decision_tasks.specs.Lines.{lines_in, place_in, protocol_text}
use Rattle.decision_tasks.specs.Decisions.{decided_by}
use Rattle.decision_tasks.specs.declared.judging.DecisionJudgement.{DecisionJudgement}
use Rattle.decision_tasks.specs.declared.judging.DecisionJudgement.TheVariants.{Kept, Broken}
use Rattle.decision_tasks.specs.declared.history.Moment.{Moment}
use Rattle.decision_tasks.specs.declared.judging.Break.{Break}
use Rattle.decision_tasks.specs.declared.task.LineFault.{LineFault}

-- ---- lines

-- how many processes have the input v
abbrev pub given : List ℕ → ℕ → ℕ
given inputs v = count_by (λ input. input == v) inputs

abbrev pub is_one : Action → Bool
is_one (Write v) = false
is_one (Decide v) = v == 1

-- The line holds for process p, which has decided v: it is read as after a snapshot that shows what was decided, by a process with its input and number. What takes the place of the
-- round is how many processes have the input v.
abbrev pub holds : List ℕ → List (Option ℕ) → ℕ → ℕ → Tree → Bool
holds inputs decisions p v line = is_one (next_action line (slice_index_or inputs p 0) p (given inputs v) decisions)

-- one of the task's lines does
abbrev pub is_allowed : List Tree → List ℕ → List (Option ℕ) → ℕ → ℕ → Bool
is_allowed lines inputs decisions p v = list_any (holds inputs decisions p v) lines

-- ---- decisions

-- each process that has decided may have decided so
abbrev pub AreAllowed : List Tree → List ℕ → List (Option ℕ) → Type 0
AreAllowed lines inputs decisions = (p v : ℕ) → slice_get decisions p ≡ Some (Some v) → is_allowed lines inputs decisions p v ≡ true

-- process p has decided v, which none of the lines allows
pub record IsRefused (lines : List Tree) (inputs : List ℕ) (decisions : List (Option ℕ)) (p v : ℕ) : Type 0 where
  pub decided : slice_get decisions p ≡ Some (Some v)
  pub refused : is_allowed lines inputs decisions p v ≡ false

-- and no process of a smaller number has
pub record IsFirstRefused (lines : List Tree) (inputs : List ℕ) (decisions : List (Option ℕ)) (p v : ℕ) : Type 0 where
  pub refused : IsRefused lines inputs decisions p v
  pub others : (q w : ℕ) → q < p → slice_get decisions q ≡ Some (Some w) → is_allowed lines inputs decisions q w ≡ true

-- what was decided is allowed after each of the events
abbrev pub KeepsDecisions : List Tree → RoomSpec → List Event → Type 0
KeepsDecisions lines spec events = (t : ℕ) → AreAllowed lines spec.inputs (decided_by spec events t)

-- After the event of this index what was decided, which is this, is no more allowed, as it was until then; this is the first process whose decision is not, and what it has decided.
pub record IsFirstBroken (lines : List Tree) (spec : RoomSpec) (events : List Event) (moment : Moment) : Type 0 where
  pub event : Event
  pub there : slice_get events moment.at ≡ Some event
  pub decided : moment.decisions.items ≡ decided_by spec events (moment.at + 1)
  pub refused : IsFirstRefused lines spec.inputs moment.decisions.items moment.process moment.value
  pub kept_before : KeepsDecisions lines spec (take moment.at events)

-- ---- judgements

-- a run of the room, at whose end this process has decided this value, which it may not
pub record IsBreak (lines : List Tree) (spec : RoomSpec) (break : Break) : Type 0 where
  pub run : IsRun spec break.events.items
  pub refused : IsRefused lines spec.inputs (decided_by spec break.events.items (length break.events.items)) break.process break.value

-- each run of the room keeps the task, and this number of nodes stands for all; or this one breaks it
abbrev pub IsDecisionJudged : List Tree → RoomSpec → ℕ → DecisionJudgement → Type 0
IsDecisionJudged lines spec limit (Kept nodes) = ((events : List Event) → IsRun spec events → KeepsDecisions lines spec events) × HasNodes spec limit nodes
IsDecisionJudged lines spec limit (Broken break) = IsBreak lines spec break

-- ---- reading

abbrev pub with_line : Tree → Result (List Tree) LineFault → Result (List Tree) LineFault
with_line line (Ok lines) = Ok (line ∷ lines)
with_line line (Err fault) = Err fault

-- the line of this index in front of the others, if it is a condition; else its number, counted from 1, its fault, and where in the line that is
abbrev pub in_front : ℕ → List ℕ → Result Tree ParseFault → Result (List Tree) LineFault → Result (List Tree) LineFault
in_front index line (Ok tree) others = with_line tree others
in_front index line (Err fault) others = Err (record { line = index + 1; at = place_in line (place_of fault); fault = fault })

-- the task of these lines, of which the first has this index, or the fault of the first that is no condition
abbrev pub task_from : ℕ → List (List ℕ) → Result (List Tree) LineFault
task_from index [] = Ok []
task_from index (line ∷ lines) = in_front index line (reading (protocol_text line)) (task_from (index + 1) lines)

-- the task that a text says
abbrev pub task_in : List ℕ → Result (List Tree) LineFault
task_in text = task_from 0 (lines_in text)
