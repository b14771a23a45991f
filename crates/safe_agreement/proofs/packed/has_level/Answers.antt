use Rattle.std.proofs.Common.{arith}
use Rattle.safe_agreement.proofs.PackedLevels.{some_at}
use Rattle.safe_agreement.proofs.packed.has_level.Goals as goal

pub returns : goal.returns
returns c = some_at c.args.word c.args.m c.args.level c.all_at.result (record { each = c.all_at.ensures.each; no_other = c.all_at.ensures.no_other }) (omega arith)
