use Rattle.std.proofs.Common.{◌≡◌, ℕ, ◌+◌, ◌<◌, false}
use Rattle.std.specs.Prelude.{◌==◌}
use Rattle.ws_history.specs.Readings.{read_of}
use Rattle.ws_history.proofs.reports.is_inside.Given as goal

abbrev pub invariant-loop-r : goal.invariant-loop-r
invariant-loop-r l = (k : ℕ) → k < l.r → ((read_of l.room).level l.i l.j (k + 1) == 1) ≡ false
