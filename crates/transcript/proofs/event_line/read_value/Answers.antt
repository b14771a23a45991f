use Rattle.std.proofs.Common.{arith}
use Rattle.transcript.proofs.Cutting.{short_value}
use Rattle.transcript.proofs.event_line.read_value.Goals as goal

pub returns-in-Some : goal.returns-in-Some
returns-in-Some c = short_value c.args.fields.now c.in-Some.value c.in-Some.ensures (omega arith)
