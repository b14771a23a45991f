-- Where the columns and the lanes of a room are.
use Rattle.std.specs.Prelude.{◌⊎◌, ◌≤◌, ℕ, ◌+◌, ◌-◌, ◌*◌, ◌/◌, ◌%◌, ◌==◌, nat_le, nat_lt, max, min, if◌then◌else◌}
use Rattle.run_columns.specs.declared.column.Scale.{Scale}
use Rattle.run_columns.specs.declared.column.Scale.TheVariants.{Steps, Turns, Simulators}
use Rattle.picture_shapes.specs.declared.shape.Dashes.{Dashes}
use Rattle.picture_shapes.specs.declared.shape.Dashes.TheVariants.{Short, Solid}
use Rattle.picture_shapes.specs.declared.shape.Point.{Point}
use Rattle.simulator_lanes.specs.declared.layout.Grid.{Grid}
use Rattle.simulator_lanes.specs.declared.layout.TheConstants.{LANE, LEFT, PROCESS, TOP}

-- how wide a number of columns is
abbrev pub across : Scale → ℕ → ℕ
across Steps columns = 16 * columns
across Turns columns = 40 * columns
across Simulators columns = 40 * columns

-- ---- rows

-- how many columns a whole row has
abbrev pub in_row : Grid → ℕ
in_row grid = max grid.wrap 1

unfoldable pub row_of : Grid → ℕ → ℕ
row_of grid place = place / in_row grid

unfoldable pub rows : Grid → ℕ
rows grid = max (row_of grid (grid.count + in_row grid - 1)) 1

-- how many columns a row has
unfoldable pub columns_in : Grid → ℕ → ℕ
columns_in grid row =
    if nat_lt row (row_of grid grid.count) then in_row grid
    else (if row == row_of grid grid.count then grid.count % in_row grid else 0)

-- a row has a lane for each simulator, under them the numbers of steps, and then a lane for each process
unfoldable pub row_height : Grid → ℕ
row_height grid = LANE * grid.simulators + (PROCESS * grid.processes + 50)

-- the upper end of a row
unfoldable pub row_y : Grid → ℕ → ℕ
row_y grid row = TOP + row * row_height grid

-- the right end of its columns
unfoldable pub row_right : Grid → ℕ → ℕ
row_right grid row = LEFT + across grid.scale (columns_in grid row)

-- the right end of all columns
unfoldable pub right_of : Grid → ℕ
right_of grid = LEFT + across grid.scale (min grid.count (in_row grid))

-- ---- columns and lanes

-- the left end of the column at a place
unfoldable pub column_x : Grid → ℕ → ℕ
column_x grid place = LEFT + across grid.scale (place % in_row grid)

-- the upper end of a simulator's lane in a row
unfoldable pub lane_y : Grid → ℕ → ℕ → ℕ
lane_y grid row simulator = row_y grid row + LANE * simulator

-- the upper end of a process's lane in a row
unfoldable pub process_y : Grid → ℕ → ℕ → ℕ
process_y grid row process = row_y grid row + (LANE * grid.simulators + (PROCESS * process + 26))

-- the left and upper end of a column in a simulator's lane
unfoldable pub cell : Grid → ℕ → ℕ → Point
cell grid simulator place = record { x = column_x grid place; y = lane_y grid (row_of grid place) simulator }

-- ---- processes

abbrev pub dashes_for : ℕ → Dashes
dashes_for process = if nat_le 8 process then Short else Solid

-- ---- laws

-- areas of these sizes that begin at two points don't overlap: one is next to the other, or below it
abbrev pub AreApart : Point → Point → ℕ → ℕ → Type 0
AreApart one other width height =
    ((one.x + width ≤ other.x) ⊎ (other.x + width ≤ one.x)) ⊎ ((one.y + height ≤ other.y) ⊎ (other.y + height ≤ one.y))

-- an area of these sizes that begins at a point ends before this right and this lower end
abbrev pub IsWithin : Point → ℕ → ℕ → ℕ → ℕ → Type 0
IsWithin corner width height right bottom = (corner.x + width ≤ right) × (corner.y + height ≤ bottom)
