use Rattle.std.proofs.Common.{◌≡◌, ◌+◌, ◌≤◌, ℕ, length}
use Rattle.room_files.specs.Inputs.{all_blocks, all_blocks_from}
use Rattle.room_files.proofs.setup.read_all_blocks.Given as goal

-- what is left says the rest
abbrev pub invariant-loop-block : goal.invariant-loop-block
invariant-loop-block g l = (most : ℕ) × (length l.rest ≤ most) × (all_blocks l.kinds l.input ≡ all_blocks_from l.kinds most l.setup l.rest) × (l.setup.line + length l.rest ≤ length l.input + 1) × (length l.rest ≤ length l.input)

abbrev pub decreases-loop-block : goal.decreases-loop-block
decreases-loop-block g l = length l.rest
