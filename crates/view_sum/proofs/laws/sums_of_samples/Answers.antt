use Rattle.view_sum.proofs.SamplesAdd.{samples_add}
use Rattle.view_sum.proofs.laws.sums_of_samples.Goals as goal

pub returns : goal.returns
returns c = λ spec first later ungrouped lists follow. samples_add spec c.samples_add_up.ensures first later ungrouped lists follow
