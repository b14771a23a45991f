use Rattle.run_search.proofs.Marking.{other_bit}
use Rattle.run_search.proofs.mark.has_other.Goals as goal

pub returns : goal.returns
returns c = λ is. other_bit c.args.marks c.args.others c.ranges.marks.fits c.ranges.others.fits is
