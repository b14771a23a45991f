use Rattle.view_sample.proofs.RoomTexts.{cut_here, on_err, one_sample_more}
use Rattle.view_sample.proofs.rooms.write_samples.Goals as goal

pub loop-index-preserved : goal.loop-index-preserved
loop-index-preserved g c =
    one_sample_more c.args.plan.now c.args.rooms.now.rooms c.loop-index.index c.block.result.now c.loop-index.well c.in_ok-held.held c.args.output.now c.loop-index.output c.write_room.new.output
    c.block.ensures c.loop-index.invariant c.in_ok-held.ensures.whole

pub returns-in_err-held-clause-cut : goal.returns-in_err-held-clause-cut
returns-in_err-held-clause-cut g c =
    on_err c.from_residual.result (cut_here c.args.plan.now c.args.rooms.now.rooms c.loop-index.index c.block.result.now c.loop-index.well c.args.output.now c.loop-index.output c.write_room.new.output
    c.block.ensures c.loop-index.invariant c.in_err-held.ensures.cut)
