use Rattle.std.proofs.Common.{◌≡◌, ℕ, ◌++◌, List, map}
use Rattle.std.specs.Vec.Iter.{into_iter_items, into_iter_len}
use Rattle.room_spec.specs.Rooms.{RoomSpec}
use Rattle.scheduler.specs.Results.{AddsRoomRuns}
use Rattle.scheduler.specs.Tasks.{AreKept, away}
use Rattle.scheduler.proofs.rooms.finish_all.Given as goal

abbrev pub invariant-loop-room : goal.invariant-loop-room
invariant-loop-room g l = record {
  kept : AreKept (into_iter_items l.rooms) (into_iter_items l.keepers);
  home : (k i : ℕ) → away (into_iter_items l.keepers) k i ≡ 0;
  runs : (specs : List RoomSpec) × (map (λ room. room.spec) l.fn.stopped.rooms.items ≡ specs ++ map (λ room. room.spec) (into_iter_items l.rooms)) × AddsRoomRuns specs (g.A.Gathers.has_gathered l.fn.gathered) (g.A.Gathers.has_gathered l.all);
}

abbrev pub decreases-loop-room : goal.decreases-loop-room
decreases-loop-room g l = into_iter_len l.rooms
