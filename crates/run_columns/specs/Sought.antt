-- Which steps do something for a process.
use Rattle.std.specs.Prelude.{ℕ, ◌==◌, ◌&&◌, nat_le, nat_lt, Bool, true, false, List, [], ◌∷◌, ◌++◌, Option, Some, None, if◌then◌else◌}
use Rattle.std.specs.List.{find}
use Rattle.run_columns.specs.declared.column.Column.{Column}
use Rattle.run_columns.specs.declared.mark.Mark.{Mark}
use Rattle.run_columns.specs.declared.mark.Mark.TheVariants.{Step, Crash}
use Rattle.run_columns.specs.declared.mark.Step.{Step as StepMark}
use Rattle.run_columns.specs.declared.sought.Sought.{Sought}
use Rattle.run_columns.specs.Columns.{more, steps_in}
use Rattle.run_columns.specs.StepKinds.{is_same}

-- whether this is the simulator that is asked for, if one is
abbrev pub is_by : Option ℕ → ℕ → Bool
is_by None simulator = true
is_by (Some asked) simulator = simulator == asked

-- whether this is the word that is asked for, if one is
abbrev pub is_on : Option ℕ → Option ℕ → Bool
is_on None word = true
is_on (Some asked) None = false
is_on (Some asked) (Some word) = word == asked

abbrev pub is_sought_step : Sought → StepMark → Bool
is_sought_step sought step =
    (is_same step.kind sought.kind && ((step.process == sought.process) && (step.round == sought.round)))
    && (is_by sought.simulator step.simulator && is_on sought.word step.word)

abbrev pub is_sought : Sought → Mark → Bool
is_sought sought (Step step) = is_sought_step sought step
is_sought sought (Crash simulator) = false

-- of each such step how many steps were taken before it, in order; this many were taken before all of these
abbrev pub steps_from : Sought → ℕ → List Mark → List ℕ
steps_from sought before [] = []
steps_from sought before (mark ∷ marks) =
    (if is_sought sought mark then before ∷ [] else []) ++ steps_from sought (more before (steps_in mark)) marks

abbrev pub steps_of : Sought → List Mark → List ℕ
steps_of sought marks = steps_from sought 0 marks

-- whether a column shows the step before which this many were taken
abbrev pub shows_step : ℕ → Column → Bool
shows_step step column = nat_le column.before step && nat_lt step (more column.before column.count)

abbrev pub column_at : ℕ → List Column → Option Column
column_at step columns = find (shows_step step) columns
