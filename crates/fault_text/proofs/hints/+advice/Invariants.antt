use Rattle.std.proofs.Common.{length}
use Rattle.fault_text.proofs.hints.+advice.Given as goal

abbrev pub decreases-advice : goal.decreases-advice
decreases-advice l = length l.entries.now
