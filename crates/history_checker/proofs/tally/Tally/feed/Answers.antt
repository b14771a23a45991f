use Rattle.std.proofs.Common.{sym, ap, ◌∙◌, subst}
use Rattle.std.specs.Prelude.{is_some}
use Rattle.history_checker.specs.Tasks.{TallyState}
use Rattle.history_checker.specs.Verdicts.{TallyStands}
use Rattle.history_checker.proofs.Counting.{broken_still, breaks_task, keeps_on, unbroken_task}
use Rattle.history_checker.proofs.tally.Tally.feed.Goals as goal

pub returns-then-is_some : goal.returns-then-is_some
returns-then-is_some c =
    λ fed one event line stands.
    broken_still c.args.spec.now c.args.most fed one c.args.self.now.decided c.args.self.now.excess (ap (λ (tally : TallyState). is_some tally.excess) (sym c.self.view_is) ∙ sym c.if-is_some.ensures) stands

pub returns-then-not-follow : goal.returns-then-not-follow
returns-then-not-follow c =
    λ fed one event line stands.
    let P : TallyState → Type 0 = λ tally. TallyStands c.args.spec.now c.args.most fed tally.decided tally.excess in
    breaks_task c.args.spec.now c.args.most c.self.inside.decided c.follow.new.self fed one c.args.event.now c.args.line event line c.if-not-follow.ensures
    (unbroken_task c.args.spec.now c.args.most fed c.self.inside.decided c.self.inside.excess (sym c.if-is_some.ensures) (subst P (sym c.self.view_is) stands))

pub returns-else-not-follow : goal.returns-else-not-follow
returns-else-not-follow c =
    λ fed one event line stands.
    let P : TallyState → Type 0 = λ tally. TallyStands c.args.spec.now c.args.most fed tally.decided tally.excess in
    keeps_on c.args.spec.now c.args.most c.self.inside.decided c.follow.new.self c.self.inside.excess fed one c.args.event.now (sym c.if-is_some.ensures) event c.if-not-follow.ensures
    (unbroken_task c.args.spec.now c.args.most fed c.self.inside.decided c.self.inside.excess (sym c.if-is_some.ensures) (subst P (sym c.self.view_is) stands))
