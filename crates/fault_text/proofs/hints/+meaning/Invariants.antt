use Rattle.std.proofs.Common.{length}
use Rattle.fault_text.proofs.hints.+meaning.Given as goal

abbrev pub decreases-meaning : goal.decreases-meaning
decreases-meaning l = length l.entries.now
