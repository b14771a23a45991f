use Rattle.std.proofs.Common.{length}
use Rattle.fault_text.proofs.places.+write_blanks_below.Given as goal

abbrev pub decreases-write_blanks_below : goal.decreases-write_blanks_below
decreases-write_blanks_below l = length l.shown.now
