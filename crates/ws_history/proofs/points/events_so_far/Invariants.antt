use Rattle.std.proofs.Common.{◌≡◌, ◌*◌, ◌≤◌}
use Rattle.room_core.specs.Calls.{configuration_of}
use Rattle.room_core.specs.Counting.{events_of, total}
use Rattle.ws_history.proofs.points.events_so_far.Given as goal

abbrev pub invariant-loop-i : goal.invariant-loop-i
invariant-loop-i l = (l.events ≡ total (events_of (configuration_of l.room)) l.i) × (l.events ≤ l.i * 4294967296)
