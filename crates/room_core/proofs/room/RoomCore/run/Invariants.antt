use Rattle.std.proofs.Common.{◌-◌, ◌≤◌}
use Rattle.room_core.proofs.fields.Repeating.{HasRun}
use Rattle.room_core.proofs.room.RoomCore.run.Given as goal

abbrev pub invariant-loop-taken : goal.invariant-loop-taken
invariant-loop-taken l = record {
  run : HasRun l.initial.self l.i l.taken l.self;
  most : l.taken ≤ l.most;
}

abbrev pub decreases-loop-taken : goal.decreases-loop-taken
decreases-loop-taken l = l.most - l.taken
