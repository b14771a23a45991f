use Rattle.transcript.proofs.Cutting.{value_whole}
use Rattle.transcript.proofs.event_line.read_long.Goals as goal

pub returns-in-Ok : goal.returns-in-Ok
returns-in-Ok c = value_whole c.args.fields.now c.in-Ok.value c.in-Ok.ensures.value
