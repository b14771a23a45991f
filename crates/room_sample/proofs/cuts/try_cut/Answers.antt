use Rattle.std.proofs.Common.{rules}
use Rattle.room_sample.proofs.Shortening.{cut_kept, same_lists}
use Rattle.room_sample.proofs.cuts.try_cut.Goals as goal

pub returns : goal.returns
returns c =
    cut_kept c.args.ending.now.spec.now c.in_ok-clone.field-0 c.args.ending.now.crashes c.args.ending.now.states.now.items c.in_ok-run.run'.states.items c.args.schedule.now.items c.in_ok-run.run'.schedule.items
    (search rules) (same_lists c.in_ok-run.run'.states.items c.args.ending.now.states.now.items (search rules)) c.in_ok-run.ensures
