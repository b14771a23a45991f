use Rattle.std.proofs.Common.{◌≡◌, ap, subst}
use Rattle.std.specs.Prelude.{Err}
use Rattle.transcript.specs.Reductions.{IsFirstBreakOf}
use Rattle.history_checker.proofs.Own.{judged_first, judged_run}
use Rattle.history_checker.proofs.reduction.check_reduction.Goals as goal

pub returns-clause-run : goal.returns-clause-run
returns-clause-run c = judged_run c.args.spec.now c.args.events.now c.follow_each.result c.follow_each.ensures

pub returns-clause-first : goal.returns-clause-first
returns-clause-first c = judged_first c.args.spec.now c.args.events.now c.follow_each.result c.follow_each.ensures
