use Rattle.std.proofs.Common.{◌≡◌, ℕ, ◌<◌, false}
use Rattle.room_core.specs.Agreements.{is_out}
use Rattle.ws_history.specs.Readings.{read_of}
use Rattle.ws_history.proofs.reading.decided_in.Given as goal

abbrev pub invariant-loop-i : goal.invariant-loop-i
invariant-loop-i l = (k : ℕ) → k < l.i → is_out ((read_of l.room).out k l.j) ≡ false
