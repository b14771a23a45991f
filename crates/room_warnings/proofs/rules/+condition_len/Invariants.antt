use Rattle.std.proofs.Common.{length}
use Rattle.room_warnings.proofs.rules.+condition_len.Given as goal

abbrev pub decreases-condition_len : goal.decreases-condition_len
decreases-condition_len l = length l.text.now
