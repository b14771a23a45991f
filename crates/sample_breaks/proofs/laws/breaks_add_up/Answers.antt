use Rattle.sample_breaks.proofs.Breaking.{breaks_add}
use Rattle.sample_breaks.proofs.laws.breaks_add_up.Goals as goal

pub returns : goal.returns
returns c = λ lines spec plan later_plan schedules more breaks later seed from crashes are ares. breaks_add lines spec plan later_plan schedules seed from crashes more breaks later are ares
