use Rattle.std.proofs.Common.{◌≡◌, ℕ, ◌+◌, ◌<◌, List, length, map, Some}
use Rattle.std.specs.List.{slice_get}
use Rattle.ruled_room.specs.Parts.{RoomName}
use Rattle.scheduler.specs.Tasks.{AreTasksOf, away_at, waiting}
use Rattle.scheduler.proofs.Dealing.{keeper_after}
use Rattle.scheduler.proofs.opening.deal.Given as goal

abbrev pub invariant-loop-i : goal.invariant-loop-i
invariant-loop-i l = record {
  keeper : l.keeper ≡ keeper_after l.fresh.room.now l.i;
  next : (l.next < length l.queues.items) × (length l.queues.items ≡ length l.initial.queues.items);
  tasks : (rooms : List RoomName) → slice_get rooms l.fresh.place ≡ Some l.fresh.room.now → AreTasksOf rooms (map (λ queue. queue.items) l.initial.queues.items) → AreTasksOf rooms (map (λ queue. queue.items) l.queues.items);
  away : (k i : ℕ) → waiting k i (map (λ queue. queue.items) l.queues.items) ≡ waiting k i (map (λ queue. queue.items) l.initial.queues.items) + away_at l.fresh.place l.keeper.sweeps k i;
}
