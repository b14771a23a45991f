use Rattle.std.proofs.Common.{◌≡◌, ◌*◌, ◌≤◌}
use Rattle.room_core.specs.Calls.{configuration_of}
use Rattle.room_core.specs.Counting.{total}
use Rattle.room_core.specs.Rooms.{mind_at}
use Rattle.step_words.proofs.number.steps_so_far.Given as goal

abbrev pub invariant-loop-i : goal.invariant-loop-i
invariant-loop-i l = (l.steps ≡ total (λ i. (mind_at (configuration_of l.room) i).steps) l.i) × (l.steps ≤ l.i * 4294967296)
