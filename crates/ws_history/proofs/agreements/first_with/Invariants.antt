use Rattle.std.proofs.Common.{◌≡◌, ℕ, ◌<◌, false}
use Rattle.std.specs.Prelude.{nat_le}
use Rattle.ws_history.specs.Readings.{read_of}
use Rattle.ws_history.proofs.agreements.first_with.Given as goal

abbrev pub invariant-loop-i : goal.invariant-loop-i
invariant-loop-i l = (k : ℕ) → k < l.i → nat_le l.r ((read_of l.room).step k l.p) ≡ false
