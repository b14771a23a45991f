use Rattle.std.proofs.Common.{ℕ, ◌<◌, None}
use Rattle.std.specs.Prelude.{IsSome, slice_index_or}
use Rattle.ruled_room.proofs.keeper.Keeper.out.Given as goal

abbrev pub invariant-loop-i : goal.invariant-loop-i
invariant-loop-i l = (k : ℕ) → k < l.i → IsSome (slice_index_or l.self.sweeps k None)
