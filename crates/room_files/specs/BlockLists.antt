-- Rooms with the blocks that say them.
use Rattle.std.specs.Prelude.{◌≡◌, ℕ, nat_eq, List, [], ◌∷◌, ◌++◌, length, Some, Ok, slice_get, codes, if◌then◌else◌, ⊤}
use Rattle.std.specs.List.{ends_with}
use Rattle.room_spec.specs.Rooms.{RoomSpec}
use Rattle.room_files.specs.Kinds.{block_of}
use Rattle.room_files.specs.declared.kinds.Kinds.TheVariants.{All}

-- rooms, each with the block that says it
pub record RoomBlocks : Type 0 where
  pub rooms : List RoomSpec
  pub blocks : List (List ℕ)

abbrev pub AreBlocks : List RoomSpec → List (List ℕ) → Type 0
AreBlocks [] [] = ⊤
AreBlocks (spec ∷ specs) (block ∷ blocks) = (block_of All block ≡ Ok (spec, length block)) × AreBlocks specs blocks
AreBlocks [] (block ∷ blocks) = ⊥
AreBlocks (spec ∷ specs) [] = ⊥

-- the block says the room of this index
pub record IsBlockAt (rooms : List RoomSpec) (index : ℕ) (block : List ℕ) : Type 0 where
  pub room : RoomSpec
  pub there : slice_get rooms index ≡ Some room
  pub says : block_of All block ≡ Ok (room, length block)

-- a block, and a line end if it has none at its end
abbrev pub whole_block : List ℕ → List ℕ
whole_block block = if ends_with nat_eq block (codes "\n") then block else block ++ codes "\n"
