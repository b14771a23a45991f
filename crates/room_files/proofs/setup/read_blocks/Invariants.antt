use Rattle.std.proofs.Common.{◌≡◌, ◌⊎◌, ◌+◌, ◌≤◌, ℕ, suc, length}
use Rattle.room_files.specs.Inputs.{blocks_from, blocks_in, BeginsWithBlock}
use Rattle.room_files.proofs.setup.read_blocks.Given as goal

-- what is left says the rest
abbrev pub invariant-loop-rest : goal.invariant-loop-rest
invariant-loop-rest g l = (most : ℕ) × (length l.rest ≤ most) × (blocks_in l.kinds l.input ≡ blocks_from l.kinds (suc most) l.setup l.rest) × (l.setup.line + length l.rest ≤ length l.input + 1) × ((l.rest ≡ l.input) ⊎ BeginsWithBlock l.input)

abbrev pub decreases-loop-rest : goal.decreases-loop-rest
decreases-loop-rest g l = length l.rest
