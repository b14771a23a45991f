use Rattle.std.proofs.Common.{length}
use Rattle.fault_text.proofs.phrases.+write_shown_form.Given as goal

abbrev pub decreases-write_shown_form : goal.decreases-write_shown_form
decreases-write_shown_form l = length l.form.now
