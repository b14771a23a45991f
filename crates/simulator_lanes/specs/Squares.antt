-- A square for each column: a step, or a stretch of steps; or the cross of a crash.
use Rattle.std.specs.Prelude.{ℕ, ◌&&◌, nat_le, List, [], ◌∷◌, ◌++◌, Option, Some, None, codes, decimal, if◌then◌else◌}
use Rattle.std.specs.List.{flat_map}
use Rattle.room_spec.specs.Rooms.{RoomSpec}
use Rattle.picture_shapes.specs.declared.colour.Colour.{Colour}
use Rattle.picture_shapes.specs.declared.colour.Colour.TheVariants.{Alarm, Clear, Faint, Hue, White}
use Rattle.picture_shapes.specs.declared.shape.Dashes.TheVariants.{Solid}
use Rattle.picture_shapes.specs.declared.shape.Point.{Point}
use Rattle.picture_shapes.specs.declared.shape.Shape.{Shape}
use Rattle.picture_shapes.specs.declared.shape.Shape.TheVariants.{Area, Hint, Label, Line}
use Rattle.picture_shapes.specs.Places.{frame_at, moved}
use Rattle.run_columns.specs.declared.column.Column.{Column}
use Rattle.run_columns.specs.declared.column.Scale.{Scale}
use Rattle.run_columns.specs.declared.column.Scale.TheVariants.{Steps, Turns, Simulators}
use Rattle.run_columns.specs.declared.mark.Mark.{Mark}
use Rattle.run_columns.specs.declared.mark.Mark.TheVariants.{Step, Crash}
use Rattle.run_columns.specs.declared.mark.Step.{Step as StepMark}
use Rattle.run_columns.specs.Columns.{more, simulator_of}
use Rattle.run_columns.specs.StepKinds.{is_marked, letter_of}
use Rattle.simulator_lanes.specs.declared.fonts.TheConstants.{DIGIT, LETTER, SMALL_BOLD}
use Rattle.simulator_lanes.specs.declared.layout.Grid.{Grid}
use Rattle.simulator_lanes.specs.Layout.{cell, dashes_for}
use Rattle.simulator_lanes.specs.Words.{counted, simulator_name, step_words}

-- ---- one step

-- its square has the hue of its process; one that changes the agreement or decides is filled
unfoldable pub step_fill : StepMark → Colour
step_fill step = if is_marked step.kind then Hue step.process else White

unfoldable pub step_ink : StepMark → Colour
step_ink step = if is_marked step.kind then White else Hue step.process

-- Of two processes with the same hue the second has dashed outlines, white ones if the square is filled.
unfoldable pub step_outline : StepMark → Colour
step_outline step = if is_marked step.kind && nat_le 8 step.process then White else Hue step.process

-- its letter, and the number of its word if it has one
abbrev pub letter_shapes : Point → StepMark → Option ℕ → List Shape
letter_shapes corner step None = Label (moved corner 8 19) LETTER (step_ink step) (letter_of step.kind) ∷ []
letter_shapes corner step (Some word) =
    Label (moved corner 6 19) LETTER (step_ink step) (letter_of step.kind) ∷ Label (moved corner 12 19) DIGIT (step_ink step) (decimal word) ∷ []

unfoldable pub step_square : RoomSpec → Point → ℕ → StepMark → List Shape
step_square spec corner number step =
    Area (frame_at (moved corner 1 7) 14 16) 3 (step_fill step) (step_outline step) (dashes_for step.process)
    ∷ (letter_shapes corner step step.word ++ Hint (frame_at (moved corner 1 7) 14 16) (step_words spec number step) ∷ [])

-- ---- several steps

unfoldable pub count_words : Column → List ℕ
count_words column = counted column.count (codes " step") (codes " steps") ++ (codes ", from step " ++ decimal (more column.before 1))

-- simulator 0: 12 steps, from step 30
unfoldable pub stretch_words : ℕ → Column → List ℕ
stretch_words simulator column = simulator_name simulator ++ (codes ": " ++ count_words column)

-- it has how many steps there are, in the hue of their process if they have one turn
unfoldable pub stretch : Point → ℕ → Column → Colour → List Shape
stretch corner simulator column hue =
    Area (frame_at (moved corner 1 7) 38 16) 3 White hue Solid
    ∷ Label (moved corner 20 19) LETTER hue (decimal column.count)
    ∷ Hint (frame_at (moved corner 1 7) 38 16) (stretch_words simulator column)
    ∷ []

-- ---- a crash

unfoldable pub crash_words : ℕ → List ℕ
crash_words simulator = simulator_name simulator ++ codes " crashes"

unfoldable pub cross_lines : Point → List Shape
cross_lines corner =
    Line (moved corner 2 9) (moved corner 14 21) 3 Alarm Solid ∷ Line (moved corner 2 21) (moved corner 14 9) 3 Alarm Solid ∷ []

-- the word is on white, so that it can be read where its simulator is inside an agreement
unfoldable pub cross_word : Point → List Shape
cross_word corner =
    Area (frame_at (moved corner 17 7) 52 16) 0 White Clear Solid ∷ Label (moved corner 20 19) SMALL_BOLD Alarm (codes "crashed") ∷ []

unfoldable pub cross : Point → ℕ → List Shape
cross corner simulator = cross_lines corner ++ (cross_word corner ++ Hint (frame_at (moved corner 1 7) 68 16) (crash_words simulator) ∷ [])

-- ---- all columns

abbrev pub steps_square : Scale → RoomSpec → Point → Column → StepMark → List Shape
steps_square Steps spec corner column step = step_square spec corner (more column.before 1) step
steps_square Turns spec corner column step = stretch corner step.simulator column (Hue step.process)
steps_square Simulators spec corner column step = stretch corner step.simulator column Faint

abbrev pub square_by : Mark → Scale → RoomSpec → Point → Column → List Shape
square_by (Step step) scale spec corner column = steps_square scale spec corner column step
square_by (Crash simulator) scale spec corner column = cross corner simulator

abbrev pub square : Grid → RoomSpec → Column → List Shape
square grid spec column = square_by column.first grid.scale spec (cell grid (simulator_of column.first) column.place) column

unfoldable pub squares : Grid → RoomSpec → List Column → List Shape
squares grid spec columns = flat_map (square grid spec) columns
