use Rattle.std.proofs.Common.{arith}
use Rattle.std.proofs.lemmas.Grind.{common_steps}
use Rattle.report_text.proofs.Pieces.{snapshot_line}
use Rattle.report_text.proofs.events.write_event.Goals as goal

pub returns-in-Snap : goal.returns-in-Snap
returns-in-Snap c = grind (arith, common_steps, snapshot_line)
