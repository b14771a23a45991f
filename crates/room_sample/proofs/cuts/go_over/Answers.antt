use Rattle.room_sample.proofs.Shortening.{one_cut_more}
use Rattle.room_sample.proofs.cuts.go_over.Goals as goal

pub returns : goal.returns
returns c =
    one_cut_more c.args.ending.now.spec.now c.args.ending.now.crashes c.args.ending.now.states.now.items c.args.schedule.now.items c.leave_out.new.schedule.items c.lower_all.new.schedule.items c.in_ok-leave_out.ensures c.in_ok-lower_all.ensures
