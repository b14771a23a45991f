-- Who is in the unsafe section of an agreement, and how the lanes show it.
use Rattle.std.specs.Prelude.{◌≡◌, ◌⊎◌, ℕ, ◌==◌, ◌&&◌, ◌||◌, Bool, true, false, List, [], ◌∷◌, ◌++◌, Option, Some, None, length, if◌then◌else◌}
use Rattle.std.specs.List.{filter, last_or}
use Rattle.picture_shapes.specs.declared.colour.Colour.{Colour}
use Rattle.picture_shapes.specs.declared.colour.Colour.TheVariants.{Hatched, Pale}
use Rattle.picture_shapes.specs.declared.shape.Shape.{Shape}
use Rattle.run_columns.specs.declared.mark.StepKind.{StepKind}
use Rattle.run_columns.specs.declared.mark.StepKind.TheVariants.{Enter, Stand, Withdraw}
use Rattle.run_columns.specs.declared.mark.Mark.{Mark}
use Rattle.run_columns.specs.declared.mark.Mark.TheVariants.{Step, Crash}
use Rattle.run_columns.specs.Columns.{columns_of}
use Rattle.run_columns.specs.StepKinds.{is_same}
use Rattle.simulator_lanes.specs.declared.layout.Grid.{Grid}
use Rattle.simulator_lanes.specs.Lanes.{inside_at, lane_insides}
use Rattle.simulator_lanes.specs.Layout.{cell}

abbrev pub is_passage : StepKind → Bool
is_passage kind = is_same kind Enter || (is_same kind Stand || is_same kind Withdraw)

-- a step by which this simulator enters an agreement or leaves it
abbrev pub passes : ℕ → Mark → Bool
passes simulator (Step step) = (step.simulator == simulator) && is_passage step.kind
passes simulator (Crash other) = false

-- a step by which it enters one, or its crash
abbrev pub enters_or_crashes : ℕ → Mark → Bool
enters_or_crashes simulator (Step step) = (step.simulator == simulator) && is_same step.kind Enter
enters_or_crashes simulator (Crash other) = other == simulator

abbrev pub is_entry : Option Mark → Bool
is_entry None = false
is_entry (Some (Step step)) = is_same step.kind Enter
is_entry (Some (Crash simulator)) = false

abbrev pub is_crash : Option Mark → Bool
is_crash None = false
is_crash (Some (Step step)) = false
is_crash (Some (Crash simulator)) = true

-- After this a simulator is in the unsafe section: the last of its steps that enter an agreement or leave it enters one.
abbrev pub is_unsafe : ℕ → List Mark → Bool
is_unsafe simulator marks = is_entry (last_or None (filter (passes simulator) marks))

-- it has crashed since it entered one
abbrev pub has_crashed : ℕ → List Mark → Bool
has_crashed simulator marks = is_crash (last_or None (filter (enters_or_crashes simulator) marks))

abbrev pub hatch_colour : Bool → Colour
hatch_colour crashed = if crashed then Pale else Hatched

-- The column of what happens next is hatched if the simulator is in the unsafe section before or after that: paler after its crash there.
abbrev pub hatch : Grid → ℕ → List Mark → Mark → List Shape
hatch grid simulator before mark =
    if is_unsafe simulator before || is_unsafe simulator (before ++ mark ∷ []) then inside_at grid (cell grid simulator (length before)) (hatch_colour (has_crashed simulator (before ++ mark ∷ []))) else []

-- the lane of a simulator in the picture of these marks is hatched in the column at this place
pub record IsHatchedAt (grid : Grid) (marks : List Mark) (simulator place : ℕ) : Type 0 where
  pub colour : Colour
  pub hatches : (colour ≡ Hatched) ⊎ (colour ≡ Pale)
  pub left : List Shape
  pub right : List Shape
  pub drawn : lane_insides grid (columns_of marks).columns simulator ≡ left ++ (inside_at grid (cell grid simulator place) colour ++ right)
