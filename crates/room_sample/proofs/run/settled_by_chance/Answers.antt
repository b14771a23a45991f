use Rattle.room_sample.specs.Chances.{random_in}
use Rattle.room_sample.specs.Ways.{way_of}
use Rattle.room_sample.proofs.Drawing.{settled_from}
use Rattle.room_sample.proofs.run.settled_by_chance.Goals as goal

pub returns : goal.returns
returns c =
    settled_from c.args.spec c.args.crashes (random_in c.args.chances.now) (way_of c.in_ok-scheduled.scheduled) c.settle.result.schedule.items c.settle.result.room c.in_ok-scheduled.ensures c.settle.ensures.schedule c.settle.ensures.room
