use Rattle.std.proofs.Common.{sym, arith}
use Rattle.safe_agreement.proofs.PackedLevels.{least_of, none_at}
use Rattle.safe_agreement.proofs.packed.least_at.Goals as goal

pub returns-then-all-eq0-clause-value : goal.returns-then-all-eq0-clause-value
returns-then-all-eq0-clause-value c =
    sym (none_at c.args.word c.args.m c.args.level c.all_at-all.result (record { each = c.all_at-all.ensures.each; no_other = c.all_at-all.ensures.no_other }) c.if-all-eq0.true)

pub returns-else-all-eq0-clause-value : goal.returns-else-all-eq0-clause-value
returns-else-all-eq0-clause-value c =
    sym (least_of c.args.word c.args.m c.args.level c.all_at-all.result (record { each = c.all_at-all.ensures.each; no_other = c.all_at-all.ensures.no_other }) (omega (arith, c.if-all-eq0.false)) (omega arith)).1

pub returns-else-all-eq0-clause-below : goal.returns-else-all-eq0-clause-below
returns-else-all-eq0-clause-below c =
    (least_of c.args.word c.args.m c.args.level c.all_at-all.result (record { each = c.all_at-all.ensures.each; no_other = c.all_at-all.ensures.no_other }) (omega (arith, c.if-all-eq0.false)) (omega arith)).0
