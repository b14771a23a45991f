use Rattle.sample_breaks.proofs.Breaking.{none_yet}
use Rattle.sample_breaks.proofs.breaks.count_breaks.Goals as goal

pub loop-place-init : goal.loop-place-init
loop-place-init g c = none_yet c.args.judging.now.task.now c.args.judging.now.spec.now c.args.judging.now.plan.now
