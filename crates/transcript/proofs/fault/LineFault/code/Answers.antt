use Rattle.std.proofs.Common.{rules}
use Rattle.transcript.proofs.fault.LineFault.code.Goals as goal

pub returns-in-BadNumber : goal.returns-in-BadNumber
returns-in-BadNumber c = search rules
