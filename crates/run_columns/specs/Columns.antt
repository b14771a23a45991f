-- The columns of a run's picture: its marks one by one, or stretches of them.
use Rattle.std.specs.Prelude.{◌≡◌, ⊤, ℕ, ◌+◌, ◌-◌, ◌^◌, Bool, false, not, ◌&&◌, ◌==◌, nat_le, List, [], ◌∷◌, length, min, take, if◌then◌else◌}
use Rattle.simulator.specs.declared.turn.Turn.{Turn}
use Rattle.simulator.specs.declared.turn.Turn.TheVariants.{Still}
use Rattle.run_columns.specs.declared.mark.StepKind.{StepKind}
use Rattle.run_columns.specs.declared.mark.StepKind.TheVariants.{StoreWrite, CountWrite, Snapshot, Propose, Enter, Look, Stand, Withdraw, Ask, LoadView, LoadValue, Decide}
use Rattle.run_columns.specs.declared.mark.Step.{Step as StepMark}
use Rattle.run_columns.specs.declared.mark.Mark.{Mark}
use Rattle.run_columns.specs.declared.mark.Mark.TheVariants.{Step, Crash}
use Rattle.run_columns.specs.declared.column.Change.{Change}
use Rattle.run_columns.specs.declared.column.Change.TheVariants.{Nothing, Enters, Leaves, Crashes}
use Rattle.run_columns.specs.declared.column.Scale.{Scale}
use Rattle.run_columns.specs.declared.column.Scale.TheVariants.{Steps, Turns, Simulators}
use Rattle.run_columns.specs.declared.column.Column.{Column}

abbrev pub simulator_of : Mark → ℕ
simulator_of (Step step) = step.simulator
simulator_of (Crash simulator) = simulator

-- whether a step belongs into the column that begins with another
abbrev pub belongs : Scale → StepMark → StepMark → Bool
belongs Steps first step = false
belongs Turns first step = (first.simulator == step.simulator) && (first.turn == step.turn)
belongs Simulators first step = first.simulator == step.simulator

-- a crash has a column of its own
abbrev pub joins : Scale → Mark → Mark → Bool
joins scale (Step first) (Step step) = belongs scale first step
joins scale (Step first) (Crash simulator) = false
joins scale (Crash simulator) mark = false

-- ---- what a column shows

abbrev pub change_by_kind : StepKind → Change
change_by_kind StoreWrite = Nothing
change_by_kind CountWrite = Nothing
change_by_kind Snapshot = Nothing
change_by_kind Propose = Nothing
change_by_kind Enter = Enters
change_by_kind Look = Nothing
change_by_kind Stand = Leaves
change_by_kind Withdraw = Leaves
change_by_kind Ask = Nothing
change_by_kind LoadView = Nothing
change_by_kind LoadValue = Nothing
change_by_kind Decide = Nothing

abbrev pub change_by : Mark → Change
change_by (Step step) = change_by_kind step.kind
change_by (Crash simulator) = Crashes

-- a change, and one after it
abbrev pub changed : Change → Change → Change
changed earlier Nothing = earlier
changed earlier Enters = Enters
changed earlier Leaves = Leaves
changed earlier Crashes = Crashes

abbrev pub steps_in : Mark → ℕ
steps_in (Step step) = 1
steps_in (Crash simulator) = 0

abbrev pub end_by : Mark → Turn
end_by (Step step) = step.end
end_by (Crash simulator) = Still

-- counting stops at the greatest number
abbrev pub more : ℕ → ℕ → ℕ
more count by = min (count + by) (2 ^ 64 - 1)

-- a column of one mark, at this place, after this many steps
abbrev pub column_of : ℕ → ℕ → Mark → Column
column_of place before mark = record { place = place; before = before; count = steps_in mark; first = mark; change = change_by mark; end = end_by mark }

-- the column with a mark more
abbrev pub widened : Column → Mark → Column
widened column mark = record column { count = more column.count (steps_in mark); change = changed column.change (change_by mark); end = end_by mark }

-- the column after another
abbrev pub next_column : Column → Mark → Column
next_column column mark = column_of (min (column.place + 1) (2 ^ 16 - 1)) (more column.before column.count) mark

-- the columns of these marks, of which the first is begun
abbrev pub columns_from : Scale → Column → List Mark → List Column
columns_from scale column [] = column ∷ []
columns_from scale column (mark ∷ marks) =
    if joins scale column.first mark then columns_from scale (widened column mark) marks
    else column ∷ columns_from scale (next_column column mark) marks

unfoldable pub columns_by : Scale → List Mark → List Column
columns_by scale [] = []
columns_by scale (mark ∷ marks) = columns_from scale (column_of 0 0 mark) marks

-- ---- how much a column shows

abbrev pub most_columns : ℕ
most_columns = 400

-- a column shows a stretch of one turn; or if there are too many of these, of one simulator
abbrev pub folded_scale : List Mark → Scale
folded_scale marks = if nat_le (length (columns_by Turns marks)) most_columns then Turns else Simulators

-- A column shows a step if there are at most 400 marks, and stretches aren't wanted.
abbrev pub scale_by : Bool → List Mark → Scale
scale_by by_turns marks = if not by_turns && nat_le (length marks) most_columns then Steps else folded_scale marks

-- what is drawn of a run: the first 400 columns, and how many there would be after them
pub record Columns : Type 0 where
  pub scale : Scale
  pub columns : List Column
  pub left_out : ℕ

abbrev pub columns_at : Scale → List Column → Columns
columns_at scale columns = record { scale = scale; columns = take most_columns columns; left_out = length columns - most_columns }

-- with stretches if they are wanted
abbrev pub columns_as : Bool → List Mark → Columns
columns_as by_turns marks = columns_at (scale_by by_turns marks) (columns_by (scale_by by_turns marks) marks)

abbrev pub columns_of : List Mark → Columns
columns_of marks = columns_as false marks

-- ---- laws

-- each column says how many steps are before it, if this many are before the first
abbrev pub AreNumbered : ℕ → List Column → Type 0
AreNumbered before [] = ⊤
AreNumbered before (column ∷ columns) = (column.before ≡ before) × AreNumbered (before + column.count) columns
