use Rattle.std.proofs.Common.{◌≡◌, ap, subst}
use Rattle.std.specs.Prelude.{Err}
use Rattle.history_checker.specs.Reasons.{IsBreak}
use Rattle.history_checker.proofs.Explaining.{one_break}
use Rattle.history_checker.proofs.history.why.Goals as goal

pub returns-in-Err-clause-first : goal.returns-in-Err-clause-first
returns-in-Err-clause-first c =
    λ broken. (
      λ e. subst (IsBreak c.args.spec.now c.args.events.now) (let same : c.explained.result ≡ broken = cc in same) c.explained.ensures,
      λ other. ap Err (one_break c.args.spec.now c.args.events.now c.explained.result broken c.explained.ensures other),
    )
