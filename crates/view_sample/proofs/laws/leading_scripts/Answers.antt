use Rattle.view_sample.proofs.Leading.{leads}
use Rattle.view_sample.proofs.laws.leading_scripts.Goals as goal

pub returns : goal.returns
returns c = λ spec crashes schedule states limits is. leads spec crashes schedule states limits is
