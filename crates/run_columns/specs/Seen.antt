-- Atomic steps as they are drawn.
use Rattle.std.specs.Prelude.{ℕ, Bool, true, false, Option, Some, None, ◌&&◌, min, nat_lt, if◌then◌else◌}
use Rattle.simulator.specs.declared.line.Line.{Line}
use Rattle.simulator.specs.declared.line.Line.TheVariants as lines
use Rattle.simulator.specs.declared.operation.Move.{Move}
use Rattle.simulator.specs.declared.operation.Move.TheVariants.{Load, Store}
use Rattle.view_table.specs.declared.place.Place.{Place}
use Rattle.view_table.specs.declared.place.Place.TheVariants.{Memory, View}
use Rattle.room_steps.specs.Steps.{turn_of}
use Rattle.room_steps.specs.declared.step.AtomicStep.{AtomicStep}
use Rattle.run_columns.specs.declared.mark.StepKind.{StepKind}
use Rattle.run_columns.specs.declared.mark.StepKind.TheVariants.{StoreWrite, CountWrite, Snapshot, Propose, Enter, Look, Stand, Withdraw, Ask, LoadView, LoadValue, Decide}
use Rattle.run_columns.specs.declared.mark.Step.{Step as StepMark}

-- a turn's first step asks where it loads, and stores a write where it does not
abbrev pub first_kind : Move → StepKind
first_kind (Load index) = Ask
first_kind operation = StoreWrite

abbrev pub kind_of : Line → Move → StepKind
kind_of lines.Rest operation = first_kind operation
kind_of lines.Raise operation = CountWrite
kind_of lines.Snap operation = Snapshot
kind_of lines.Show operation = Propose
kind_of lines.Enter operation = Enter
kind_of lines.Look operation = Look
kind_of (lines.Leave true) operation = Withdraw
kind_of (lines.Leave false) operation = Stand
kind_of lines.Ask operation = Ask
kind_of (lines.GetInput chosen) operation = LoadValue
kind_of (lines.GetView chosen) operation = LoadView
kind_of lines.Values operation = LoadValue
kind_of (lines.Out decision) operation = Decide

-- the number that an operation stores, or 0
abbrev pub stored_by : Move → ℕ
stored_by (Store index number) = number
stored_by operation = 0

abbrev pub word_in : Place → Option ℕ
word_in (Memory word) = Some (min word 255)
word_in (View simulator process round word) = Some (min word 255)
word_in place = None

-- whether a step at this line is on one of the words of a snapshot
abbrev pub is_on_snapshot : Line → Bool
is_on_snapshot lines.Snap = true
is_on_snapshot lines.Show = true
is_on_snapshot (lines.GetView chosen) = true
is_on_snapshot line = false

-- which of them is given if there are several
abbrev pub word_of : ℕ → Line → Place → Option ℕ
word_of words line place = if nat_lt 1 words && is_on_snapshot line then word_in place else None

-- what is drawn of a step in a room with this many memory words
abbrev pub step_mark : ℕ → AtomicStep → StepMark
step_mark words step = record {
  turn = step.turn;
  simulator = min step.simulator 255;
  process = min step.process 255;
  round = step.round;
  word = word_of words step.line step.place;
  stored = stored_by step.operation;
  kind = kind_of step.line step.operation;
  end = turn_of step.end;
  decision = step.decision;
}
