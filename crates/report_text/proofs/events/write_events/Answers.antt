use Rattle.std.proofs.Common.{arith}
use Rattle.std.proofs.lemmas.Grind.{common_steps}
use Rattle.report_text.proofs.events.write_events.Goals as goal

pub loop-event-preserved : goal.loop-event-preserved
loop-event-preserved c = grind (arith, common_steps)
