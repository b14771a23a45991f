use Rattle.room_sample.proofs.Shortening.{one_cut_more}
use Rattle.room_sample.proofs.cuts.lower_all.Goals as goal

pub loop-at-preserved : goal.loop-at-preserved
loop-at-preserved c =
    one_cut_more c.args.ending.now.spec.now c.args.ending.now.crashes c.args.ending.now.states.now.items c.args.schedule.now.items c.loop-at.schedule.items c.lower.new.schedule.items c.loop-at.invariant c.in_ok-lower.ensures
