use Rattle.std.proofs.Common.{length}
use Rattle.fault_text.proofs.hints.+nearest.Given as goal

abbrev pub decreases-nearest : goal.decreases-nearest
decreases-nearest l = length l.known.now
