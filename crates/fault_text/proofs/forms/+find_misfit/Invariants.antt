use Rattle.std.proofs.Common.{length}
use Rattle.fault_text.proofs.forms.+find_misfit.Given as goal

abbrev pub decreases-find_misfit : goal.decreases-find_misfit
decreases-find_misfit l = length l.form.now
