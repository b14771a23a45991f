use Rattle.view_why.proofs.Deciding.{none_before}
use Rattle.view_why.proofs.reported.Reported.decided_before.Goals as goal

pub loop-index-init : goal.loop-index-init
loop-index-init c = none_before c.args.self.now c.new-before.result.items c.new-before.ensures.items
