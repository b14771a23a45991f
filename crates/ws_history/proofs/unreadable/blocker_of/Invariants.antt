use Rattle.std.proofs.Common.{◌≡◌, ℕ, ◌<◌, false}
use Rattle.std.specs.Prelude.{◌&&◌, ◌==◌}
use Rattle.ws_history.specs.Readings.{read_of}
use Rattle.ws_history.proofs.unreadable.blocker_of.Given as goal

abbrev pub invariant-loop-i : goal.invariant-loop-i
invariant-loop-i l = (i : ℕ) → i < l.i → ((read_of l.room).crashed i && ((read_of l.room).level i l.j l.k == 1)) ≡ false
