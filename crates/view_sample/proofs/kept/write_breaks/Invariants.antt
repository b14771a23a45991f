use Rattle.std.proofs.Common.{take}
use Rattle.view_sample.specs.EachRoom.{AddsRooms}
use Rattle.view_sample.specs.Keeping.{IsBreaksText}
use Rattle.view_sample.proofs.kept.write_breaks.Given as goal

abbrev pub invariant-loop-index : goal.invariant-loop-index
invariant-loop-index g l = AddsRooms (IsBreaksText l.judged.task.now l.judged.plan.now) (take l.index l.rooms.rooms) l.kept l.initial.output l.output
