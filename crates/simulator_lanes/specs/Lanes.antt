-- The lanes of the simulators: the numbers of steps, and who is inside an agreement.
use Rattle.std.specs.Prelude.{ℕ, ◌+◌, ◌-◌, ◌*◌, ◌%◌, ◌==◌, ◌&&◌, Bool, List, [], ◌∷◌, ◌++◌, decimal, if◌then◌else◌}
use Rattle.std.specs.List.{flat_map, range_with_len}
use Rattle.picture_shapes.specs.declared.colour.Colour.{Colour}
use Rattle.picture_shapes.specs.declared.colour.Colour.TheVariants.{Clear, Faint, Hatched, Ink, Pale, Rule}
use Rattle.picture_shapes.specs.declared.shape.Dashes.TheVariants.{Solid}
use Rattle.picture_shapes.specs.declared.shape.Point.{Point}
use Rattle.picture_shapes.specs.declared.shape.Shape.{Shape}
use Rattle.picture_shapes.specs.declared.shape.Shape.TheVariants.{Area, Label, Line}
use Rattle.picture_shapes.specs.Places.{frame_at, moved}
use Rattle.run_columns.specs.declared.column.Change.{Change}
use Rattle.run_columns.specs.declared.column.Change.TheVariants.{Nothing, Enters, Leaves, Crashes}
use Rattle.run_columns.specs.declared.column.Column.{Column}
use Rattle.run_columns.specs.declared.column.Scale.{Scale}
use Rattle.run_columns.specs.declared.column.Scale.TheVariants.{Steps, Turns, Simulators}
use Rattle.run_columns.specs.Columns.{simulator_of}
use Rattle.simulator_lanes.specs.declared.fonts.TheConstants.{AXIS, WORDS}
use Rattle.simulator_lanes.specs.declared.lanes.Phase.{Phase}
use Rattle.simulator_lanes.specs.declared.lanes.Phase.TheVariants.{Outside, Inside, Stuck}
use Rattle.simulator_lanes.specs.declared.layout.Grid.{Grid}
use Rattle.simulator_lanes.specs.declared.layout.TheConstants.{LANE, LEFT, MARGIN}
use Rattle.simulator_lanes.specs.Layout.{across, cell, column_x, lane_y, row_of, row_right, row_y, rows}
use Rattle.simulator_lanes.specs.Words.{simulator_name}

-- ---- the numbers of steps

-- Each tenth step has its number, or each tenth column if columns show several steps.
abbrev pub is_tick : Scale → Column → Bool
is_tick Steps column = (column.count == 1) && (column.before % 10 == 0)
is_tick Turns column = column.place % 10 == 0
is_tick Simulators column = column.place % 10 == 0

-- a line down all lanes of this height, and under it how many steps were taken up to it
unfoldable pub tick_at : Point → ℕ → ℕ → List Shape
tick_at top height steps =
    Line top (moved top 0 height) 1 Rule Solid ∷ Label (moved top 0 (height + 12)) AXIS Faint (decimal steps) ∷ []

unfoldable pub row_start : Grid → Column → Point
row_start grid column = record { x = column_x grid column.place; y = row_y grid (row_of grid column.place) }

abbrev pub tick : Grid → Column → List Shape
tick grid column = if is_tick grid.scale column then tick_at (row_start grid column) (LANE * grid.simulators) column.before else []

unfoldable pub ticks : Grid → List Column → List Shape
ticks grid columns = flat_map (tick grid) columns

-- ---- lanes

-- the name of a simulator, and the line of its lane
unfoldable pub lane_at : ℕ → ℕ → ℕ → List Shape
lane_at y right simulator =
    Label (moved (record { x = MARGIN; y = y }) 0 19) WORDS Ink (simulator_name simulator)
    ∷ Line (moved (record { x = LEFT - 6; y = y }) 0 15) (moved (record { x = right; y = y }) 0 15) 1 Rule Solid
    ∷ []

abbrev pub lane : Grid → ℕ → ℕ → List Shape
lane grid row simulator = lane_at (lane_y grid row simulator) (row_right grid row) simulator

unfoldable pub row_lanes : Grid → ℕ → List Shape
row_lanes grid row = flat_map (lane grid row) (range_with_len 0 grid.simulators)

unfoldable pub lanes : Grid → List Shape
lanes grid = flat_map (row_lanes grid) (range_with_len 0 (rows grid))

-- ---- inside an agreement

-- the phase of a simulator in a column of its own, and after it
abbrev pub phase_in : Change → Phase → Phase
phase_in Nothing phase = phase
phase_in Enters phase = Inside
phase_in Leaves phase = phase
phase_in Crashes Inside = Stuck
phase_in Crashes Outside = Outside
phase_in Crashes Stuck = Stuck

abbrev pub phase_after : Change → Phase → Phase
phase_after Nothing phase = phase
phase_after Enters phase = Inside
phase_after Leaves phase = Outside
phase_after Crashes Inside = Stuck
phase_after Crashes Outside = Outside
phase_after Crashes Stuck = Stuck

-- what a column changes for a simulator: nothing if it is one of another's
abbrev pub change_for : ℕ → Column → Change
change_for simulator column = if simulator_of column.first == simulator then column.change else Nothing

unfoldable pub inside_at : Grid → Point → Colour → List Shape
inside_at grid corner fill = Area (frame_at (moved corner 0 2) (across grid.scale 1) 26) 0 fill Clear Solid ∷ []

-- A lane is hatched while its simulator is inside an agreement, and paler after its crash there.
abbrev pub inside : Grid → ℕ → ℕ → Phase → List Shape
inside grid simulator place Outside = []
inside grid simulator place Inside = inside_at grid (cell grid simulator place) Hatched
inside grid simulator place Stuck = inside_at grid (cell grid simulator place) Pale

-- the lane of a simulator that is in this phase before the first column
abbrev pub insides_from : Grid → ℕ → Phase → List Column → List Shape
insides_from grid simulator phase [] = []
insides_from grid simulator phase (column ∷ columns) =
    inside grid simulator column.place (phase_in (change_for simulator column) phase)
    ++ insides_from grid simulator (phase_after (change_for simulator column) phase) columns

unfoldable pub lane_insides : Grid → List Column → ℕ → List Shape
lane_insides grid columns simulator = insides_from grid simulator Outside columns

unfoldable pub insides : Grid → List Column → List Shape
insides grid columns = flat_map (lane_insides grid columns) (range_with_len 0 grid.simulators)
