use Rattle.std.proofs.Common.{ℕ}
use Rattle.room_spec.specs.Rooms.{RoomSpec}
use Rattle.room_sample.specs.Drawn.{IsScheduled}
use Rattle.room_sample.specs.Ways.{way_of}
use Rattle.room_sample.proofs.run.settled_after.Given as goal

abbrev pub invariant-loop-stretch : goal.invariant-loop-stretch
invariant-loop-stretch l = (spec : RoomSpec) (crashes : ℕ) → IsScheduled spec crashes (way_of l.initial.scheduled) → IsScheduled spec crashes (way_of l.scheduled)
