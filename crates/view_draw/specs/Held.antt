-- How the picture of a room shows that a process is held.
use Rattle.std.specs.Prelude.{◌≡◌, ◌≤◌, ◌<◌, ℕ, false, List, ◌∷◌, ◌++◌, length, slice_index_or}
use Rattle.std.specs.List.{Contains, list_any}
use Rattle.ws_history.specs.declared.states.ProcessState.TheVariants.{Going, Held}
use Rattle.run_columns.specs.declared.mark.StepKind.TheVariants.{Enter}
use Rattle.run_columns.specs.declared.mark.Mark.{Mark}
use Rattle.run_columns.specs.declared.mark.Mark.TheVariants.{Step, Crash}
use Rattle.run_columns.specs.declared.mark.Step.{Step as StepMark}
use Rattle.run_columns.specs.Columns.{most_columns}
use Rattle.simulator_lanes.specs.declared.layout.Grid.{Grid}
use Rattle.simulator_lanes.specs.Panels.{Panel, states_in}
use Rattle.simulator_lanes.specs.Unsafe.{IsHatchedAt, passes}

-- The simulator entered an agreement on the process by a step, has left none since, and has crashed there.
-- If each step has a column, its lane is hatched from the column of that step on to the last one.
pub record IsSeenHolding (marks : List Mark) (process simulator : ℕ) : Type 0 where
  pub before : List Mark
  pub entry : StepMark
  pub since : List Mark
  pub marks_are : marks ≡ before ++ Step entry ∷ since
  pub enters : entry.kind ≡ Enter
  pub by : entry.simulator ≡ simulator
  pub on : entry.process ≡ process
  pub stays : list_any (passes simulator) since ≡ false
  pub crashes : Contains since (Crash simulator)
  pub hatched : (grid : Grid) (place : ℕ) → length marks ≤ most_columns → length before ≤ place → place < length marks → IsHatchedAt grid marks simulator place

-- so does the holder of each process that is held by the report
abbrev pub ShowsHeld : Panel → Type 0
ShowsHeld panel = (process simulator : ℕ) → slice_index_or (states_in panel.report) process Going ≡ Held simulator → IsSeenHolding panel.marks process simulator
