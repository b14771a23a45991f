use Rattle.std.proofs.Common.{List, subst}
use Rattle.std.proofs.lemmas.Result.{IfOk-weaker}
use Rattle.room_sample.specs.Chances.{random_in}
use Rattle.room_sample.specs.Samples.{counted_of}
use Rattle.room_sample.specs.Shown.{KeepsOutcome}
use Rattle.room_sample.specs.declared.stretch.Stretch.{Stretch}
use Rattle.room_sample.proofs.ShownOutcomes.{drawn_again}
use Rattle.room_sample.proofs.examples.schedule_for.Goals as goal

pub returns : goal.returns
returns c =
    let run = c.in_ok-run.run' in
    IfOk-weaker c.shorten.result _ _
    (λ short kept.
    drawn_again c.args.showing.now.spec.now c.args.showing.now.plan.now (counted_of (c.args.states.now, c.args.outcome.now)) (random_in c.of-chances.result) run.schedule.items short.items run.states.items c.shape-shape.ensures.limits c.of-chances.ensures c.in_ok-run.ensures
    (subst (λ (schedule : List Stretch). KeepsOutcome c.args.showing.now.spec.now c.args.showing.now.plan.now.crashes c.args.states.now.items schedule short.items) c.as_slice.ensures.value kept) c.requires)
    c.shorten.ensures
