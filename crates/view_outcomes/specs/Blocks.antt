-- What is written of a file of rooms.
use Rattle.std.specs.Prelude.{◌≡◌, ℕ, Bool, not, ◌&&◌, ◌==◌, List, [], length, if◌then◌else◌}
use Rattle.room_files.specs.Blocks.{Setup}
use Rattle.room_files.specs.Inputs.{all_blocks}
use Rattle.room_files.specs.Verdicts.{outcome_if}
use Rattle.room_files.specs.declared.kinds.Kinds.TheVariants.{All}
use Rattle.room_files.specs.declared.outcome.Outcome.{Outcome}
use Rattle.view_outcomes.specs.declared.search.Search.{Search}
use Rattle.view_outcomes.specs.Asked.{is_alone}
use Rattle.view_outcomes.specs.Forms.{is_text}
use Rattle.view_outcomes.specs.Rooms.{AddsOutcomes}

-- text for people is written, and not only transcripts or JSON
abbrev pub is_for_people : Search → Bool
is_for_people search = is_text search.form && not (is_alone search.asked)

-- the lines of the refused blocks, which are else only on standard error
abbrev pub refused_in : Bool → List ℕ → List ℕ
refused_in people refused = if people then refused else []

-- The lines of the refused blocks, and then what is asked for of each room; or this as JSON, or the transcripts of one outcome of each room, and nothing else. All is well if no block was refused, and all is for each room.
pub record AreOutcomesWritten (search : Search) (setup : Setup) (outcome : Outcome) (output : List ℕ) : Type 0 where
  pub well : Bool
  pub rooms : AddsOutcomes search setup.rooms well (refused_in (is_for_people search) setup.refused) output
  pub outcome_is : outcome ≡ outcome_if ((length setup.refused == 0) && well)

abbrev pub IsOutcomesFor : Search → List ℕ → Outcome → List ℕ → Type 0
IsOutcomesFor search input outcome output = AreOutcomesWritten search (all_blocks All input) outcome output
