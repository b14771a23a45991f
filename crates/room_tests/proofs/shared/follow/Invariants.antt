use Rattle.std.proofs.Common.{◌≡◌}
use Rattle.room_tests.proofs.shared.follow.Given as goal

abbrev pub invariant-loop-i : goal.invariant-loop-i
invariant-loop-i l = (l.keeper.room ≡ l.room) × (l.keeper.room ≡ l.initial.keeper.room)
