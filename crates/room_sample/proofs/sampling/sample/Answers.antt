use Rattle.std.proofs.Common.{List, subst, sym, ◌∙◌}
use Rattle.room_sample.specs.Samples.{AreAmongAll, Counted}
use Rattle.room_sample.proofs.AmongAll.{sample_among}
use Rattle.room_sample.proofs.sampling.sample.Goals as goal

pub returns-clause-among : goal.returns-clause-among
returns-clause-among g c =
    subst (λ (outcomes : List Counted). AreAmongAll c.args.spec.now outcomes) (sym c.sample_of-2.ensures.outcomes)
    (sample_among c.args.spec.now c.args.plan.now c.loop-counting.counting.schedules c.loop-counting.counting.outcomes c.shape-shape.ensures.limits c.loop-counting.invariant.0)

pub returns-in-Err-clause-among : goal.returns-in-Err-clause-among
returns-in-Err-clause-among g c =
    subst (λ (outcomes : List Counted). AreAmongAll c.args.spec.now outcomes) (sym (c.sample_of.ensures.outcomes ∙ c.in-Err.ensures.outcomes))
    (sample_among c.args.spec.now c.args.plan.now c.loop-counting.counting.schedules c.loop-counting.counting.outcomes c.shape-shape.ensures.limits c.loop-counting.invariant.0)
