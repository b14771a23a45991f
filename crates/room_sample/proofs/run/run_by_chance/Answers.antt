use Rattle.std.proofs.Common.{Ok}
use Rattle.room_sample.specs.Chances.{random_in}
use Rattle.room_sample.specs.Ways.{way_of}
use Rattle.room_sample.proofs.Drawing.{run_from}
use Rattle.room_sample.proofs.run.run_by_chance.Goals as goal

pub returns : goal.returns
returns c =
    run_from c.args.spec c.args.crashes (random_in c.args.chances.now) (way_of c.in_ok-scheduled.scheduled) (Ok c.settled.result) c.settled.ensures.schedule c.settled.ensures.states
    c.in_ok-scheduled.ensures
