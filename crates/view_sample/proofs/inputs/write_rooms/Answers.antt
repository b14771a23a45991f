use Rattle.view_sample.specs.Inputs.{IsInputsText}
use Rattle.view_sample.proofs.RoomByRoom.{one_room_more}
use Rattle.view_sample.proofs.inputs.write_rooms.Goals as goal

pub loop-index-preserved : goal.loop-index-preserved
loop-index-preserved g c =
    one_room_more (IsInputsText c.args.asked.now.plan.now c.args.asked.now.values.now) c.args.rooms.now.rooms c.loop-index.index c.block.result.now c.loop-index.well c.in_ok-well.field-0 c.args.output.now c.loop-index.output c.write_room.new.output
    c.block.ensures c.loop-index.invariant c.in_ok-well.ensures
