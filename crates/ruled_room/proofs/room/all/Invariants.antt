use Rattle.std.proofs.Common.{◌≡◌, ◌≤◌, length, map, Some}
use Rattle.std.specs.Vec.{vec_capacity}
use Rattle.ruled_room.proofs.room.all.Given as goal

abbrev pub invariant-loop-sweep : goal.invariant-loop-sweep
invariant-loop-sweep l =
    (goal.iterator-loop-sweep).can_next l.sweep-iterator ×
    (goal.iterator-loop-sweep).is_finite l.sweep-iterator × (map Some l.whole.items ≡ l.yielded) × (length l.fn.sweeps.items ≤ vec_capacity l.whole)
