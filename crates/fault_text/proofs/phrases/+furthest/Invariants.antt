use Rattle.std.proofs.Common.{length}
use Rattle.fault_text.proofs.phrases.+furthest.Given as goal

abbrev pub decreases-furthest : goal.decreases-furthest
decreases-furthest l = length l.forms.now
