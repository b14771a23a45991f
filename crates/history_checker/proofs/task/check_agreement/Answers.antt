use Rattle.std.proofs.Common.{◌≡◌, ap, subst, take}
use Rattle.std.specs.Prelude.{Err}
use Rattle.std.proofs.lemmas.List.{take_more}
use Rattle.transcript.specs.Tasks.{IsFirstExcess}
use Rattle.history_checker.proofs.Tallies.{excess_at, keeps_more, no_excess, one_excess}
use Rattle.history_checker.proofs.task.check_agreement.Goals as goal

pub returns-then-not-follow-clause-keeps : goal.returns-then-not-follow-clause-keeps
returns-then-not-follow-clause-keeps c =
    let breaks = c.if-not-follow.ensures (take c.loop-t.t c.args.events.now) c.loop-t.invariant.tally in
    let first = excess_at c.args.spec.now c.args.most c.args.events.now c.loop-t.t c.index-events-t.result c.loop-t-test.true c.loop-t.invariant.kept (rw (← c.index-events-t.is) breaks) in
    (λ e. absurd cc, λ keeps. absurd (no_excess c.args.spec.now c.args.most c.args.events.now c.loop-t.t first keeps))

pub returns-then-not-follow-clause-first : goal.returns-then-not-follow-clause-first
returns-then-not-follow-clause-first c =
    let breaks = c.if-not-follow.ensures (take c.loop-t.t c.args.events.now) c.loop-t.invariant.tally in
    let first = excess_at c.args.spec.now c.args.most c.args.events.now c.loop-t.t c.index-events-t.result c.loop-t-test.true c.loop-t.invariant.kept (rw (← c.index-events-t.is) breaks) in
    λ t. (
      λ e. subst (IsFirstExcess c.args.spec.now c.args.most c.args.events.now) (let same : c.loop-t.t ≡ t = cc in same) first,
      λ other. ap Err (one_excess c.args.spec.now c.args.most c.args.events.now c.loop-t.t t first other),
    )

pub loop-t-preserved : goal.loop-t-preserved
loop-t-preserved c =
    let both = c.if-not-follow.ensures (take c.loop-t.t c.args.events.now) c.loop-t.invariant.tally in
    record {
      kept = keeps_more c.args.spec.now c.args.most c.args.events.now c.loop-t.t c.index-events-t.result c.loop-t-test.true c.loop-t.invariant.kept (rw (← c.index-events-t.is) both.0);
      tally = rw (take_more c.args.events.now c.loop-t.t c.index-events-t.result c.loop-t-test.true, ← c.index-events-t.is) both.1;
    }
