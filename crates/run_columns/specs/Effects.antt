-- At which step each event of a process takes effect, as far as the steps of its room show it.
use Rattle.std.specs.Prelude.{ℕ, ◌+◌, ◌-◌, nat_le, nat_lt, List, [], ◌∷◌, length, min, Option, Some, None, fold, slice_index_or, if◌then◌else◌}
use Rattle.transcript.specs.declared.event.Event.{Event}
use Rattle.transcript.specs.declared.event.Event.TheVariants.{Write, Snap, Decide as Decision}
use Rattle.run_columns.specs.declared.column.Column.{Column}
use Rattle.run_columns.specs.declared.mark.StepKind.{StepKind}
use Rattle.run_columns.specs.declared.mark.StepKind.TheVariants.{CountWrite, Snapshot, Stand, Decide}
use Rattle.run_columns.specs.declared.mark.Mark.{Mark}
use Rattle.run_columns.specs.declared.sought.Sought.{Sought}
use Rattle.run_columns.specs.Columns.{simulator_of}
use Rattle.run_columns.specs.Sought.{column_at, is_sought, steps_of}

-- the steps that do this for a process in a round
abbrev pub by_any : StepKind → ℕ → ℕ → Sought
by_any kind process round = record { kind = kind; process = process; round = round; simulator = None; word = None }

abbrev pub first_in : List ℕ → Option ℕ
first_in [] = None
first_in (step ∷ steps) = Some step

-- the last of a list, if `back` is 0, or the one this many before it
abbrev pub from_end : ℕ → List ℕ → Option ℕ
from_end back steps = if nat_lt back (length steps) then Some (slice_index_or steps (length steps - 1 - back) 0) else None

abbrev pub first_step : StepKind → ℕ → ℕ → List Mark → Option ℕ
first_step kind process round marks = first_in (steps_of (by_any kind process round) marks)

-- ---- snapshots

abbrev pub least : Option ℕ → ℕ → Option ℕ
least None simulator = Some simulator
least (Some other) simulator = Some (min other simulator)

abbrev pub with_kept : Sought → Option ℕ → Mark → Option ℕ
with_kept kept so_far mark = if is_sought kept mark then least so_far (simulator_of mark) else so_far

-- An agreement that is resolved has chosen the proposal of the least simulator that left it with its proposal kept.
abbrev pub chosen : ℕ → ℕ → List Mark → Option ℕ
chosen process round marks = fold (with_kept (by_any Stand process round)) None marks

-- The steps at which a simulator ended a collect of all words: each read, if there is one word.
abbrev pub last_word : ℕ → Option ℕ
last_word words = if nat_le words 1 then None else Some (words - 1)

abbrev pub reads_by : ℕ → ℕ → ℕ → ℕ → Sought
reads_by words simulator process round =
    record { kind = Snapshot; process = process; round = round; simulator = Some simulator; word = last_word words }

-- Of several words the last collect found what the one before it did; what both show was there at the end of the first of the two.
abbrev pub read_step : ℕ → ℕ → ℕ → List Mark → Option ℕ → Option ℕ
read_step words process round marks None = None
read_step words process round marks (Some simulator) =
    from_end (if nat_le words 1 then 0 else 1) (steps_of (reads_by words simulator process round) marks)

-- ---- events

-- the round of an event, and of its process from then on: a write begins one
abbrev pub round_at : ℕ → Event → ℕ
round_at round (Write p v) = min (round + 1) 255
round_at round (Snap p row) = round
round_at round (Decision p v) = round

-- A write takes effect at the step that first counts it, a snapshot at the chosen simulator's read, a decision at the step that first stores it.
abbrev pub event_step : ℕ → List Mark → ℕ → Event → Option ℕ
event_step words marks round (Write p v) = first_step CountWrite p round marks
event_step words marks round (Snap p row) = read_step words p round marks (chosen p round marks)
event_step words marks round (Decision p v) = first_step Decide p round marks

abbrev pub column_of : List Column → Option ℕ → Option Column
column_of columns None = None
column_of columns (Some step) = column_at step columns
