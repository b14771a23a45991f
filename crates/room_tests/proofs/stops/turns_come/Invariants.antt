use Rattle.std.proofs.Common.{◌≡◌}
use Rattle.room_tests.proofs.stops.turns_come.Given as goal

abbrev pub invariant-loop-fuse : goal.invariant-loop-fuse
invariant-loop-fuse l = (l.simulator.room ≡ l.room) × (l.simulator.room ≡ l.initial.simulator.room)
