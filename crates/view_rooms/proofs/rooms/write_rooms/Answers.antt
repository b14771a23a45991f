use Rattle.view_rooms.proofs.Answering.{one_text_more}
use Rattle.view_rooms.proofs.rooms.write_rooms.Goals as goal

pub loop-index-preserved : goal.loop-index-preserved
loop-index-preserved g c =
    one_text_more c.args.plan.now c.args.rooms.now.rooms c.loop-index.index c.block.result.now c.loop-index.well c.in_ok-complete.complete c.args.output.now c.loop-index.output c.write_room.new.output
    c.block.ensures c.loop-index.invariant c.in_ok-complete.ensures
