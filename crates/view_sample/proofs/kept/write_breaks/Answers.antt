use Rattle.view_sample.specs.Keeping.{IsBreaksText}
use Rattle.view_sample.proofs.RoomByRoom.{one_room_more}
use Rattle.view_sample.proofs.kept.write_breaks.Goals as goal

pub loop-index-preserved : goal.loop-index-preserved
loop-index-preserved g c =
    one_room_more (IsBreaksText c.args.judged.now.task.now c.args.judged.now.plan.now) c.args.rooms.now.rooms c.loop-index.index c.block.result.now c.loop-index.kept c.in_ok-kept.field-0 c.args.output.now c.loop-index.output c.write_room.new.output
    c.block.ensures c.loop-index.invariant c.in_ok-kept.ensures
