use Rattle.std.proofs.Common.{ap}
use Rattle.transcript.specs.Tasks.{decided_by}
use Rattle.history_checker.proofs.Tallies.{follows_decide, follows_other}
use Rattle.history_checker.proofs.task.Decided.follow.Goals as goal

pub returns-in-Decide : goal.returns-in-Decide
returns-in-Decide c = follows_decide c.args.spec.now c.args.most c.in-Decide.p c.in-Decide.v c.args.self.now c.take.new.self c.take.result c.args.event.now c.in-Decide.is c.take.ensures

pub returns-in-Write : goal.returns-in-Write
returns-in-Write c = follows_other c.args.spec.now c.args.most c.args.self.now c.args.event.now (ap decided_by c.in-Write.is)

pub returns-in-Snap : goal.returns-in-Snap
returns-in-Snap c = follows_other c.args.spec.now c.args.most c.args.self.now c.args.event.now (ap decided_by c.in-Snap.is)
