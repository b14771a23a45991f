use Rattle.std.proofs.Common.{length}
use Rattle.fault_text.proofs.phrases.+write_expected_among.Given as goal

abbrev pub decreases-write_expected_among : goal.decreases-write_expected_among
decreases-write_expected_among l = length l.forms.now
