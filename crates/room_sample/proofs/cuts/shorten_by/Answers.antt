use Rattle.room_sample.proofs.Shortening.{one_cut_more}
use Rattle.room_sample.proofs.cuts.shorten_by.Goals as goal

pub loop-preserved : goal.loop-preserved
loop-preserved c =
    one_cut_more c.args.ending.now.spec.now c.args.ending.now.crashes c.args.ending.now.states.now.items c.args.schedule.now c.loop.short.items c.go_over.new.schedule.items c.loop.invariant c.in_ok-is_changed.ensures
