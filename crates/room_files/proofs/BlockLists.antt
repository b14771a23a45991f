-- Rooms with their blocks, one by one.
use Rattle.std.proofs.Common.{◌≡◌, ◌<◌, ℕ, get_or, zero, suc, List, [], ◌∷◌, ◌++◌, Ok, length, refl, ap, arith}
use Rattle.room_spec.specs.Rooms.{RoomSpec}
use Rattle.room_files.specs.BlockLists.{AreBlocks, IsBlockAt}
use Rattle.room_files.specs.Kinds.{block_of}
use Rattle.room_files.specs.declared.kinds.Kinds.TheVariants.{All}

pub one_block_more : (specs : List RoomSpec) (blocks : List (List ℕ)) (spec : RoomSpec) (block : List ℕ) → AreBlocks specs blocks → block_of All block ≡ Ok (spec, length block) → AreBlocks (specs ++ spec ∷ []) (blocks ++ block ∷ [])
one_block_more [] [] spec block are says = (says, tt)
one_block_more (one ∷ specs) (other ∷ blocks) spec block are says = (are.0, one_block_more specs blocks spec block are.1 says)
one_block_more [] (other ∷ blocks) spec block are says = absurd are
one_block_more (one ∷ specs) [] spec block are says = absurd are

pub as_many : (specs : List RoomSpec) (blocks : List (List ℕ)) → AreBlocks specs blocks → length blocks ≡ length specs
as_many [] [] are = refl
as_many (one ∷ specs) (other ∷ blocks) are = ap suc (as_many specs blocks are.1)
as_many [] (other ∷ blocks) are = absurd are
as_many (one ∷ specs) [] are = absurd are

pub block_at : (specs : List RoomSpec) (blocks : List (List ℕ)) (i : ℕ) (d : List ℕ) → AreBlocks specs blocks → i < length specs → IsBlockAt specs i (get_or blocks i d)
block_at [] blocks i d are below = absurd (omega (arith, below))
block_at (one ∷ specs) [] i d are below = absurd are
block_at (one ∷ specs) (other ∷ blocks) zero d are below = record { room = one; there = refl; says = are.0 }
block_at (one ∷ specs) (other ∷ blocks) (suc i) d are below =
    let later = block_at specs blocks i d are.1 (omega (arith, below)) in record { room = later.room; there = later.there; says = later.says }
