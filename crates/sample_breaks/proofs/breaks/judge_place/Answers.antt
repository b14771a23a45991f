use Rattle.std.proofs.Common.{◌+◌, subst, sym}
use Rattle.sample_breaks.specs.Breaks.{AreBreaks}
use Rattle.sample_breaks.specs.declared.breaks.Breaks.{Breaks}
use Rattle.sample_breaks.proofs.Breaking.{one_more}
use Rattle.sample_breaks.proofs.breaks.judge_place.Goals as goal

pub returns : goal.returns
returns c = λ are.
    let judging = c.args.judging.now in
    subst (λ (b : Breaks). AreBreaks judging.task.now judging.spec.now judging.plan.now (c.args.place + 1) b) (sym c.noted.ensures)
    (one_more judging.task.now judging.spec.now judging.plan.now c.args.place c.args.breaks c.in_ok-found.found c.in_ok-found.ensures.0 c.in_ok-found.ensures.1 c.in_ok-found.ensures.2 are)
