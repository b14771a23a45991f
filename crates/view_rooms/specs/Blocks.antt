-- What is written of a file of rooms whose schedules are searched.
use Rattle.std.specs.Prelude.{◌≡◌, ℕ, Bool, ◌&&◌, ◌==◌, List, [], length, if◌then◌else◌}
use Rattle.room_files.specs.Blocks.{Setup}
use Rattle.room_files.specs.Inputs.{all_blocks}
use Rattle.room_files.specs.Verdicts.{outcome_if}
use Rattle.room_files.specs.declared.outcome.Outcome.{Outcome}
use Rattle.room_files.specs.declared.kinds.Kinds.TheVariants.{All}
use Rattle.view_rooms.specs.declared.plan.RoomPlan.{RoomPlan}
use Rattle.view_rooms.specs.Rooms.{AddsOutcomes}

-- the lines of the refused blocks, which are on standard error alone if JSON is written
abbrev pub refused_in : Bool → List ℕ → List ℕ
refused_in json refused = if json then [] else refused

-- The lines of the refused blocks, and then the outcomes of each room; or these as JSON, and nothing else. All is well if no block was refused, and all is for each room.
pub record AreRoomsWritten (plan : RoomPlan) (setup : Setup) (outcome : Outcome) (output : List ℕ) : Type 0 where
  pub well : Bool
  pub rooms : AddsOutcomes plan setup.rooms well (refused_in plan.json setup.refused) output
  pub outcome_is : outcome ≡ outcome_if ((length setup.refused == 0) && well)

abbrev pub IsRoomsFor : RoomPlan → List ℕ → Outcome → List ℕ → Type 0
IsRoomsFor plan input outcome output = AreRoomsWritten plan (all_blocks All input) outcome output
