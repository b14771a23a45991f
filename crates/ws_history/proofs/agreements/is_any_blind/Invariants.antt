use Rattle.std.proofs.Common.{◌≡◌, ℕ, ◌<◌, false}
use Rattle.room_core.specs.Agreements.{has_looked_blind}
use Rattle.ws_history.specs.Readings.{read_of}
use Rattle.ws_history.proofs.agreements.is_any_blind.Given as goal

abbrev pub invariant-loop-i : goal.invariant-loop-i
invariant-loop-i l = (a : ℕ) → a < l.i → has_looked_blind (read_of l.room) a l.j l.k ≡ false
