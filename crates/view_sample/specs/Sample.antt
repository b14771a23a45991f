-- What is written of a file of rooms that are sampled.
use Rattle.std.specs.Prelude.{◌≡◌, ℕ, ◌==◌, ◌&&◌, not, is_some, Bool, List, [], ◌++◌, length, codes, if◌then◌else◌, Result, Ok, Err}
use Rattle.std.specs.declared.alloc.AllocError.{AllocError}
use Rattle.room_files.specs.Blocks.{Setup}
use Rattle.room_files.specs.Inputs.{all_blocks}
use Rattle.room_files.specs.Verdicts.{outcome_if}
use Rattle.room_files.specs.declared.outcome.Outcome.{Outcome}
use Rattle.room_files.specs.declared.kinds.Kinds.TheVariants.{All}
use Rattle.view_sample.specs.Rooms.{AddsFirst, AddsSamples}
use Rattle.room_sample.specs.declared.sampling.Plan.{Plan}

-- text for people is written, and not only scripts or JSON
abbrev pub is_for_people : Plan → Bool
is_for_people plan = not (is_some plan.outcome) && not plan.json

-- what comes before the samples: the lines of the refused blocks
abbrev pub head_of : Bool → List ℕ → List ℕ
head_of people refused = if people then refused else []

-- what comes after them: that they are samples
abbrev pub last_of : Bool → List ℕ
last_of people = if people then codes "\nthis is a sample of simulations: other outcomes may come, and with fewer simulators than processes a protocol has runs to which no schedule leads\n" else []

-- The lines of the refused blocks, a sample of each room, and that it is none but a sample; or the samples as JSON, and nothing else. All is well
-- if no block was refused and no schedule broke a room's task. Or the scripts of one outcome of each room, and nothing else; then all is well if
-- no block was refused and each room has that outcome.
pub record IsSampleOutput (plan : Plan) (setup : Setup) (outcome : Outcome) (output : List ℕ) : Type 0 where
  pub reported : List ℕ
  pub well : Bool
  pub samples : AddsSamples plan setup.rooms well (head_of (is_for_people plan) setup.refused) reported
  pub output_is : output ≡ reported ++ last_of (is_for_people plan)
  pub outcome_is : outcome ≡ outcome_if ((length setup.refused == 0) && well)

-- The same, but an allocation failed for a room: the samples of those before it, and what there was memory for of its own.
pub record IsCutOutput (plan : Plan) (setup : Setup) (output : List ℕ) : Type 0 where
  pub reported : List ℕ
  pub samples : AddsFirst plan setup.rooms (head_of (is_for_people plan) setup.refused) reported
  pub output_is : output ≡ reported ++ last_of (is_for_people plan)

-- An `Err` says that an allocation failed.
abbrev pub IsSampleOr : Plan → Setup → Result Outcome AllocError → List ℕ → Type 0
IsSampleOr plan setup (Ok outcome) output = IsSampleOutput plan setup outcome output
IsSampleOr plan setup (Err refused) output = IsCutOutput plan setup output

abbrev pub IsSampleFor : Plan → List ℕ → Result Outcome AllocError → List ℕ → Type 0
IsSampleFor plan input ending output = IsSampleOr plan (all_blocks All input) ending output
