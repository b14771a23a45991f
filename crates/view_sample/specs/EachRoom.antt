-- What is written of a file of rooms of which each is judged, and none is cut short.
use Rattle.std.specs.Prelude.{◌≡◌, ℕ, ◌==◌, ◌&&◌, Bool, true, List, [], ◌∷◌, ◌++◌, length}
use Rattle.std.specs.List.{concat}
use Rattle.room_spec.specs.Rooms.{RoomSpec}
use Rattle.room_files.specs.Blocks.{Setup}
use Rattle.room_files.specs.Verdicts.{outcome_if}
use Rattle.room_files.specs.declared.outcome.Outcome.{Outcome}
use Rattle.room_sample.specs.declared.sampling.Plan.{Plan}
use Rattle.view_sample.specs.Sample.{head_of, is_for_people, last_of}

-- a text for each room, in order: one that may be written of it, and says whether all is well with it; all is well if it is with each
abbrev pub AreRoomTexts : (RoomSpec → Bool → List ℕ → Type 0) → List RoomSpec → Bool → List (List ℕ) → Type 0
AreRoomTexts IsText [] well [] = well ≡ true
AreRoomTexts IsText (spec ∷ specs) well (text ∷ texts) = (one others : Bool) × IsText spec one text × AreRoomTexts IsText specs others texts × (well ≡ (one && others))
AreRoomTexts IsText [] well (text ∷ texts) = ⊥
AreRoomTexts IsText (spec ∷ specs) well [] = ⊥

-- a text for each room was added
pub record AddsRooms (IsText : RoomSpec → Bool → List ℕ → Type 0) (specs : List RoomSpec) (well : Bool) (before after : List ℕ) : Type 0 where
  pub texts : List (List ℕ)
  pub each_room : AreRoomTexts IsText specs well texts
  pub after_is : after ≡ before ++ concat texts

-- The lines of the refused blocks, a text for each room, and that these are samples; in JSON the texts of the rooms, and nothing else. All is well if no block was refused, and all is well with each room.
pub record IsRoomsOutput (IsText : RoomSpec → Bool → List ℕ → Type 0) (plan : Plan) (setup : Setup) (outcome : Outcome) (output : List ℕ) : Type 0 where
  pub reported : List ℕ
  pub well : Bool
  pub rooms : AddsRooms IsText setup.rooms well (head_of (is_for_people plan) setup.refused) reported
  pub output_is : output ≡ reported ++ last_of (is_for_people plan)
  pub outcome_is : outcome ≡ outcome_if ((length setup.refused == 0) && well)
