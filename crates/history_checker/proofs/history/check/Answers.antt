use Rattle.std.proofs.Common.{◌≡◌, ap, subst}
use Rattle.std.specs.Prelude.{Err}
use Rattle.transcript.specs.Runs.{IsFirstBreak}
use Rattle.history_checker.proofs.Explaining.{first_of}
use Rattle.history_checker.proofs.Runs.{no_run, one_first}
use Rattle.history_checker.proofs.history.check.Goals as goal

pub returns-in-Err-clause-run : goal.returns-in-Err-clause-run
returns-in-Err-clause-run c =
    let first = first_of c.args.spec.now c.args.events.now _ c.in-Err.misfit c.in-Err.ensures in
    (λ e. absurd cc, λ run. absurd (no_run c.args.spec.now c.args.events.now c.in-Err.misfit.at first run))

pub returns-in-Err-clause-first : goal.returns-in-Err-clause-first
returns-in-Err-clause-first c =
    let first = first_of c.args.spec.now c.args.events.now _ c.in-Err.misfit c.in-Err.ensures in
    λ t. (
      λ e. subst (IsFirstBreak c.args.spec.now c.args.events.now) (let same : c.in-Err.misfit.at ≡ t = cc in same) first,
      λ other. ap Err (one_first c.args.spec.now c.args.events.now c.in-Err.misfit.at t first other),
    )
