use Rattle.std.proofs.Common.{length}
use Rattle.fault_text.proofs.places.+write_seen.Given as goal

abbrev pub decreases-write_seen : goal.decreases-write_seen
decreases-write_seen l = length l.bytes.now
