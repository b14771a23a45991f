use Rattle.std.proofs.Common.{sym, ◌∙◌}
use Rattle.history_checker.proofs.Tallies.{own_excess}
use Rattle.history_checker.proofs.task.check_task.Goals as goal

pub returns-in-Some-clause-first : goal.returns-in-Some-clause-first
returns-in-Some-clause-first c = λ t.
    own_excess c.args.spec.now c.args.events.now c.in-Some.most t _ (sym c.in-Some.is ∙ c.task.ensures.value) (rw c.from.ensures at c.check_agreement.ensures.first t)
