-- The turns of the simulators: a bar under the steps of each.
use Rattle.std.specs.Prelude.{ℕ, ◌+◌, ◌-◌, ◌==◌, ◌&&◌, nat_le, Bool, false, List, [], ◌∷◌, ◌++◌, Option, Some, None, codes, decimal, fold, if◌then◌else◌}
use Rattle.std.specs.List.{find, flat_map, range_with_len}
use Rattle.simulator.specs.declared.turn.Turn.{Turn}
use Rattle.simulator.specs.declared.turn.Turn.TheVariants.{Still, Useful, Quiet}
use Rattle.picture_shapes.specs.declared.colour.Colour.TheVariants.{Hue}
use Rattle.picture_shapes.specs.declared.shape.Dashes.{Dashes}
use Rattle.picture_shapes.specs.declared.shape.Dashes.TheVariants.{Short, Solid}
use Rattle.picture_shapes.specs.declared.shape.Point.{Point}
use Rattle.picture_shapes.specs.declared.shape.Shape.{Shape}
use Rattle.picture_shapes.specs.declared.shape.Shape.TheVariants.{Hint, Label, Line}
use Rattle.picture_shapes.specs.Places.{frame_at, moved}
use Rattle.run_columns.specs.declared.column.Column.{Column}
use Rattle.run_columns.specs.declared.column.Scale.{Scale}
use Rattle.run_columns.specs.declared.column.Scale.TheVariants.{Steps, Turns, Simulators}
use Rattle.run_columns.specs.declared.mark.Mark.{Mark}
use Rattle.run_columns.specs.declared.mark.Mark.TheVariants.{Step, Crash}
use Rattle.run_columns.specs.declared.mark.Step.{Step as StepMark}
use Rattle.simulator_lanes.specs.declared.fonts.TheConstants.{SMALL}
use Rattle.simulator_lanes.specs.declared.layout.Grid.{Grid}
use Rattle.simulator_lanes.specs.declared.layout.TheConstants.{LEFT}
use Rattle.simulator_lanes.specs.Layout.{across, column_x, lane_y, row_of, row_right, rows}
use Rattle.simulator_lanes.specs.Words.{process_round, simulator_name}

-- whether this is a step of the same turn
abbrev pub is_in_turn : StepMark → Mark → Bool
is_in_turn step (Step other) = (other.simulator == step.simulator) && (other.turn == step.turn)
is_in_turn step (Crash simulator) = false

abbrev pub shows_turn : StepMark → Column → Bool
shows_turn step column = is_in_turn step column.first

-- the first and the last column that show a step of the same turn; the given one if there is none
abbrev pub first_place : StepMark → List Column → Option Column
first_place step columns = find (shows_turn step) columns

abbrev pub last_of : StepMark → Column → List Column → Column
last_of step column columns = fold (λ last other. if shows_turn step other then other else last) column columns

abbrev pub is_at : ℕ → Option Column → Bool
is_at place None = false
is_at place (Some column) = column.place == place

-- ---- words

unfoldable pub ending_words : Turn → List ℕ
ending_words Still = []
ending_words Useful = codes ", useful"
ending_words Quiet = codes ", quiet"

unfoldable pub turn_number : StepMark → List ℕ
turn_number step = codes "turn " ++ (decimal step.turn ++ (codes " of " ++ simulator_name step.simulator))

-- turn 2 of simulator 1: process 0, round 1, quiet
unfoldable pub turn_words : StepMark → Turn → List ℕ
turn_words step end = turn_number step ++ (codes ": " ++ (process_round step.process step.round ++ ending_words end))

-- as much of the name as there is room for: p0 r1 quiet
unfoldable pub round_part : ℕ → ℕ → List ℕ
round_part width round = if nat_le 34 width then codes " r" ++ decimal round else []

unfoldable pub quiet_part : ℕ → Turn → List ℕ
quiet_part width Quiet = if nat_le 72 width then codes " quiet" else []
quiet_part width Still = []
quiet_part width Useful = []

unfoldable pub turn_name : ℕ → StepMark → Turn → List ℕ
turn_name width step end = codes "p" ++ (decimal step.process ++ (round_part width step.round ++ quiet_part width end))

-- ---- the bar

-- a quiet turn's bar is dashed
abbrev pub bar_dashes : Turn → Dashes
bar_dashes Still = Solid
bar_dashes Useful = Solid
bar_dashes Quiet = Short

-- a bar of this width, under a lane that begins here
unfoldable pub bar : Point → ℕ → StepMark → Turn → List Shape
bar start width step end =
    Line (moved start 1 33) (moved start (width - 1) 33) 3 (Hue step.process) (bar_dashes end)
    ∷ Label (moved start 1 44) SMALL (Hue step.process) (turn_name width step end)
    ∷ Hint (frame_at (moved start 0 30) width 16) (turn_words step end)
    ∷ []

-- ends of the bar in a row: those of the turn, or those of the row if the turn goes on in another
unfoldable pub bar_left : Grid → Column → ℕ → ℕ
bar_left grid first row = if row_of grid first.place == row then column_x grid first.place else LEFT

unfoldable pub bar_right : Grid → Column → ℕ → ℕ
bar_right grid last row = if row_of grid last.place == row then column_x grid last.place + across grid.scale 1 else row_right grid row

unfoldable pub bar_in : Grid → Column → Column → StepMark → ℕ → List Shape
bar_in grid first last step row =
    bar (record { x = bar_left grid first row; y = lane_y grid row step.simulator }) (bar_right grid last row - bar_left grid first row) step last.end

abbrev pub bar_part : Grid → Column → Column → StepMark → ℕ → List Shape
bar_part grid first last step row =
    if nat_le (row_of grid first.place) row && nat_le row (row_of grid last.place) then bar_in grid first last step row else []

unfoldable pub bar_parts : Grid → Column → Column → StepMark → List Shape
bar_parts grid first last step = flat_map (bar_part grid first last step) (range_with_len 0 (rows grid))

-- ---- all turns

-- the bar begins at the first column of the turn
abbrev pub turn_from : Mark → Grid → List Column → Column → List Shape
turn_from (Step step) grid columns column =
    if is_at column.place (first_place step columns) then bar_parts grid column (last_of step column columns) step else []
turn_from (Crash simulator) grid columns column = []

abbrev pub turn : Grid → List Column → Column → List Shape
turn grid columns column = turn_from column.first grid columns column

unfoldable pub all_turns : Grid → List Column → List Shape
all_turns grid columns = flat_map (turn grid columns) columns

-- there are none if a column may show several turns
abbrev pub turns_at : Scale → Grid → List Column → List Shape
turns_at Steps grid columns = all_turns grid columns
turns_at Turns grid columns = all_turns grid columns
turns_at Simulators grid columns = []

abbrev pub turns : Grid → List Column → List Shape
turns grid columns = turns_at grid.scale grid columns
