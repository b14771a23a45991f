use Rattle.room_sample.proofs.Shortening.{one_cut_more}
use Rattle.room_sample.proofs.cuts.leave_out.Goals as goal

pub loop-preserved : goal.loop-preserved
loop-preserved c =
    one_cut_more c.args.ending.now.spec.now c.args.ending.now.crashes c.args.ending.now.states.now.items c.args.schedule.now.items c.loop.schedule.items c.leave_out_parts.new.schedule.items c.loop.invariant c.in_ok-leave_out_parts.ensures
