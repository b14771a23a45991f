use Rattle.std.proofs.Common.{◌≡◌, ◌∙◌, ◌<◌, Option, Some, List, ℕ, length, refl, rules, subst, sym, take, ap}
use Rattle.std.specs.Prelude.{slice_get}
use Rattle.std.proofs.lemmas.Option.{slice_get_read}
use Rattle.decision_tasks.specs.Decisions.{noted}
use Rattle.decision_tasks.specs.Tasks.{AreAllowed}
use Rattle.decision_tasks.proofs.Noting.{allowed_now, decided_more, kept_all, kept_at_start, kept_more, length_decided, none_at_start}
use Rattle.decision_tasks.proofs.history.first_broken.Goals as goal

pub loop-at-init : goal.loop-at-init
loop-at-init c = (c.none_decided-decisions.ensures ∙ sym (none_at_start c.args.spec.now), kept_at_start c.args.task.now c.args.spec.now)

pub refused_after-requires-clause-width : goal.refused_after-requires-clause-width
refused_after-requires-clause-width c =
    ap (λ (all : List (Option ℕ)). length all) c.loop-at.invariant.0 ∙ length_decided c.args.spec.now (take c.loop-at.at c.args.events.now)

pub refused_after-requires-clause-before : goal.refused_after-requires-clause-before
refused_after-requires-clause-before c =
    subst (AreAllowed c.args.task.now c.args.spec.now.inputs) (sym c.loop-at.invariant.0) (allowed_now c.args.task.now c.args.spec.now c.args.events.now c.loop-at.at c.loop-at.invariant.1)

pub returns-in-Some-clause-some : goal.returns-in-Some-clause-some
returns-in-Some-clause-some c =
    let event = c.index-events-at.result in
    let below : c.loop-at.at < length c.args.events.now = search rules in
    let there : slice_get c.args.events.now c.loop-at.at ≡ Some event = slice_get_read c.args.events.now (length c.args.events.now) c.loop-at.at event refl below c.index-events-at.is in
    record {
      event = event;
      there = there;
      decided = c.refused_after.ensures.noted ∙ ap (λ all. noted all event) c.loop-at.invariant.0 ∙ sym (decided_more c.args.spec.now c.args.events.now c.loop-at.at event there);
      refused = c.in-Some.ensures.some;
      kept_before = c.loop-at.invariant.1;
    }

pub loop-at-preserved : goal.loop-at-preserved
loop-at-preserved c =
    let event = c.index-events-at.result in
    let below : c.loop-at.at < length c.args.events.now = search rules in
    let there : slice_get c.args.events.now c.loop-at.at ≡ Some event = slice_get_read c.args.events.now (length c.args.events.now) c.loop-at.at event refl below c.index-events-at.is in
    let decided = c.refused_after.ensures.noted ∙ ap (λ all. noted all event) c.loop-at.invariant.0 ∙ sym (decided_more c.args.spec.now c.args.events.now c.loop-at.at event there) in
    let allowed = subst (AreAllowed c.args.task.now c.args.spec.now.inputs) decided c.in_default.ensures.none in
    (decided, kept_more c.args.task.now c.args.spec.now c.args.events.now c.loop-at.at c.loop-at.invariant.1 allowed)

pub returns-clause-none : goal.returns-clause-none
returns-clause-none c = kept_all c.args.task.now c.args.spec.now c.args.events.now c.loop-at.at (search rules) c.loop-at.invariant.1
