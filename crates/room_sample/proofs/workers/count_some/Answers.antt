use Rattle.std.proofs.Common.{◌+◌, refl, subst}
use Rattle.rand_core.specs.Stream.{Stream}
use Rattle.room_sample.specs.Samples.{IsRunFrom, Sampled, number_at}
use Rattle.room_sample.proofs.Parts.{one_added}
use Rattle.room_sample.proofs.workers.count_some.Goals as goal

pub loop-done-preserved : goal.loop-done-preserved
loop-done-preserved c =
    let run = c.in_ok-run.run' in
    let number = number_at c.args.plan.now (c.args.places.first + c.loop-done.done) in
    let one : Sampled = record { number = number; schedule = run.schedule.items; states = run.states.items } in
    one_added c.args.spec.now c.args.plan.now c.args.places.first c.loop-done.done c.loop-done.tally c.add.new.self one c.loop-done.invariant
    (record { number_is = refl; drawn = subst (λ (random : Stream). IsRunFrom c.args.spec.now c.args.plan.now.crashes random run.schedule.items run.states.items) c.of-chances.ensures c.in_ok-run.ensures })
    c.in_ok-add.ensures
