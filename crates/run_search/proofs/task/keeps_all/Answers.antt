use Rattle.std.proofs.Common.{refl, arith}
use Rattle.run_search.proofs.Allowing.{of_all, of_more, of_none}
use Rattle.run_search.proofs.task.keeps_all.Goals as goal

pub loop-p-init : goal.loop-p-init
loop-p-init c = of_none c.args.spec.now c.args.most c.args.node.now c.new-decided.result.items c.new-decided.ensures

pub loop-p-preserved : goal.loop-p-preserved
loop-p-preserved c = of_more c.args.spec.now c.args.most c.args.node.now c.loop-p.p c.loop-p.decided.items c.allow_all.new.decided.items c.set.result.now c.set.ensures c.loop-p.invariant (c.if-not-allow_all.ensures refl)

pub returns : goal.returns
returns c = λ yes. of_all c.args.spec.now c.args.most c.args.node.now c.loop-p.p c.loop-p.decided.items (omega (arith, c.loop-p-test.false, c.n-p-end.ensures.value)) c.loop-p.invariant
