-- Blocks of rooms that have other inputs, by the text of the block that was given.
use Rattle.std.specs.Prelude.{◌⊎◌, ℕ, List, ◌∷◌, ◌++◌, length, codes, decimal, if◌then◌else◌}
use Rattle.io_text.specs.Numbers.{numbers_text}
use Rattle.room_spec.specs.Grammar.{IsBlock, IsReductionBlock, line_end}
use Rattle.room_spec.specs.Rooms.{RoomSpec, is_reduction}
use Rattle.room_spec.specs.Texts.{first_line, later_lines}

-- the line of a block that says these inputs
abbrev pub inputs_line : List ℕ → List ℕ
inputs_line inputs = codes "inputs" ++ numbers_text inputs

-- the block with this line in place of its third
abbrev pub block_with : List ℕ → List ℕ → List ℕ
block_with block inputs =
    (first_line block ++ line_end)
    ++ ((first_line (later_lines block) ++ line_end)
    ++ ((inputs_line inputs ++ line_end) ++ later_lines (later_lines (later_lines block))))

-- The block of a run of a reduction, in which its processes have these inputs, by the reduction's block and the number of its simulators: an
-- ordinary room. Its first, third and fourth line take the place of the reduction's, and all others stay.
abbrev pub run_block : List ℕ → ℕ → List ℕ → List ℕ
run_block block simulators inputs =
    (codes "bgsim 2" ++ line_end)
    ++ ((first_line (later_lines block) ++ line_end)
    ++ ((inputs_line inputs ++ line_end)
    ++ (((codes "simulators" ++ (32 ∷ decimal simulators)) ++ line_end) ++ later_lines (later_lines (later_lines (later_lines block))))))

-- the block of the ordinary room whose processes have these inputs, by the block of a room of either kind
abbrev pub room_block : RoomSpec → List ℕ → List ℕ → List ℕ
room_block room block inputs = if is_reduction room then run_block block room.simulators inputs else block_with block inputs

-- the whole text is a block that says the room, an ordinary one or a reduction
abbrev pub IsRoomBlock : List ℕ → RoomSpec → Type 0
IsRoomBlock block room = IsBlock block room (length block) ⊎ IsReductionBlock block room (length block)
