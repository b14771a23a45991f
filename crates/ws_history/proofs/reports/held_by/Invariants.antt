use Rattle.std.proofs.Common.{◌≡◌, ℕ, ◌<◌, false}
use Rattle.std.specs.Prelude.{◌&&◌}
use Rattle.ws_history.specs.Readings.{read_of}
use Rattle.ws_history.specs.Reports.{is_inside}
use Rattle.ws_history.proofs.reports.held_by.Given as goal

abbrev pub invariant-loop-i : goal.invariant-loop-i
invariant-loop-i l = (k : ℕ) → k < l.i → ((read_of l.room).crashed k && is_inside l.room.spec (read_of l.room) k l.j) ≡ false
