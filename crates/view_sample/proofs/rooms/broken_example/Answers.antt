use Rattle.room_sample.specs.Samples.{CameByFirst, counted_of}
use Rattle.view_sample.specs.Tasks.{breaks_task, first_broken}
use Rattle.view_sample.proofs.Coming.{first_found, if_found}
use Rattle.view_sample.proofs.rooms.broken_example.Goals as goal

pub example_of-requires : goal.example_of-requires
example_of-requires c =
    if_found (λ one. counted_of (one.0.now, one.1.now)) (CameByFirst c.args.room.now.spec.now c.args.room.now.plan.now) c.first_broken-found.result (first_broken c.args.room.now.spec.now c.args.outcomes.now) c.first_broken-found.ensures
    (first_found (CameByFirst c.args.room.now.spec.now c.args.room.now.plan.now) (breaks_task c.args.room.now.spec.now) c.args.outcomes.now c.requires)
