use Rattle.std.proofs.Common.{refl}
use Rattle.run_search.proofs.Allowing.{so_all, so_first, so_more}
use Rattle.run_search.proofs.task.allow_all.Goals as goal

pub loop-local-init : goal.loop-local-init
loop-local-init c = so_first c.args.spec.now c.args.most c.args.decided.now.items c.args.set.now

pub loop-local-preserved : goal.loop-local-preserved
loop-local-preserved c =
    so_more c.args.spec.now c.args.most c.args.decided.now.items c.loop-local.decided.items c.allow.new.decided.items c.args.set.now c.loop-local.local-index c.loop-local-test.true c.loop-local.invariant (c.if-not-allow.ensures refl)

pub returns : goal.returns
returns c = λ yes. so_all c.args.spec.now c.args.most c.args.decided.now.items c.loop-local.decided.items c.args.set.now c.loop-local.local-index c.loop-local-test.false c.loop-local.invariant
