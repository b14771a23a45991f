use Rattle.std.proofs.Common.{◌≡◌, ◌<◌, ℕ, None}
use Rattle.simulator.specs.Minds.{known_input}
use Rattle.room_core.specs.Calls.{sweep_at}
use Rattle.room_core.proofs.room.RoomCore.first_input.Given as goal

-- none of the simulators so far has it
abbrev pub invariant-loop-i : goal.invariant-loop-i
invariant-loop-i l = (a : ℕ) → a < l.i → known_input (sweep_at l.self a).mind l.j ≡ None
