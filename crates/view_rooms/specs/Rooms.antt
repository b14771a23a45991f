-- What is written of the rooms of a file.
use Rattle.std.specs.Prelude.{◌≡◌, ◌⊎◌, ℕ, ◌-◌, ◌==◌, Bool, true, false, ◌&&◌, List, [], ◌∷◌, ◌++◌, length, Option, Some, None, Ok}
use Rattle.std.specs.List.{All, concat}
use Rattle.room_files.specs.Kinds.{block_of}
use Rattle.room_files.specs.declared.kinds.Kinds.TheVariants as kinds
use Rattle.room_spec.specs.Rooms.{RoomSpec}
use Rattle.room_search.specs.declared.search.Reach.{Reach}
use Rattle.view_rooms.specs.declared.plan.RoomPlan.{RoomPlan}
use Rattle.view_rooms.specs.Listing.{AreInOrder, HasScript}
use Rattle.view_rooms.specs.Shown.{found_shown, head_shown, unfinished_shown}

-- all simulators but one may crash, if the number is not said
abbrev pub crashes_for : RoomSpec → Option ℕ → ℕ
crashes_for spec None = spec.simulators - 1
crashes_for spec (Some crashes) = crashes

-- The text shows all outcomes that the simulators can reach, each with a script that leads to it, and says how many there are. All is well if for each node a schedule was
-- found: the search is complete then.
pub record IsFoundText (plan : RoomPlan) (spec : RoomSpec) (block : List ℕ) (well : Bool) (text : List ℕ) : Type 0 where
  pub all : Reach
  pub outcomes : AreInOrder spec (crashes_for spec plan.crashes) plan.nodes all
  pub scripts : All (HasScript spec.name block) all.outcomes.items
  pub well_is : well ≡ (all.missed == 0)
  pub text_is : text ≡ found_shown plan spec block (crashes_for spec plan.crashes) all

-- the text says that there are more nodes than the limit, and nothing of outcomes
pub record IsUnfinishedText (plan : RoomPlan) (spec : RoomSpec) (well : Bool) (text : List ℕ) : Type 0 where
  pub text_is : text ≡ unfinished_shown plan.json spec (crashes_for spec plan.crashes) plan.nodes
  pub well_is : well ≡ false

-- what is written of a room, with a block that says the room
pub record IsRoomText (plan : RoomPlan) (spec : RoomSpec) (well : Bool) (text : List ℕ) : Type 0 where
  pub block : List ℕ
  pub says : block_of kinds.All block ≡ Ok (spec, length block)
  pub rest : List ℕ
  pub rest_is : IsFoundText plan spec block well rest ⊎ IsUnfinishedText plan spec well rest
  pub text_is : text ≡ head_shown plan.json spec.name (crashes_for spec plan.crashes) ++ rest

-- a text for each room, in order; all is well if it is for each
abbrev pub AreRoomTexts : RoomPlan → List RoomSpec → Bool → List (List ℕ) → Type 0
AreRoomTexts plan [] well [] = well ≡ true
AreRoomTexts plan (spec ∷ specs) well (text ∷ texts) = (one others : Bool) × IsRoomText plan spec one text × AreRoomTexts plan specs others texts × (well ≡ (one && others))
AreRoomTexts plan [] well (text ∷ texts) = ⊥
AreRoomTexts plan (spec ∷ specs) well [] = ⊥

-- a text for each room was added
pub record AddsOutcomes (plan : RoomPlan) (specs : List RoomSpec) (well : Bool) (before after : List ℕ) : Type 0 where
  pub texts : List (List ℕ)
  pub each_room : AreRoomTexts plan specs well texts
  pub after_is : after ≡ before ++ concat texts
