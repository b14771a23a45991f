use Rattle.std.proofs.Common.{arith}
use Rattle.level_cells.proofs.FieldLemmas.{masked, field_below}
use Rattle.level_cells.proofs.bits.field.Goals as goal

pub returns-clause-value : goal.returns-clause-value
returns-clause-value c = masked 64 c.args.word c.args.at c.args.width (omega arith)

pub returns-clause-range : goal.returns-clause-range
returns-clause-range c = omega (arith, masked 64 c.args.word c.args.at c.args.width (omega arith), field_below c.args.word c.args.at c.args.width)
