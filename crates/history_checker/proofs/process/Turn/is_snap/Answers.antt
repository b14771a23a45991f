use Rattle.std.proofs.Common.{rules}
use Rattle.history_checker.proofs.process.Turn.is_snap.Goals as goal

pub returns-in-Snap : goal.returns-in-Snap
returns-in-Snap c = search rules
