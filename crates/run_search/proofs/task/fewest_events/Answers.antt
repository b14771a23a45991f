use Rattle.std.proofs.Common.{◌≤◌, List, Contains, subst, arith}
use Rattle.run_search.specs.declared.local_state.LocalState.{LocalState}
use Rattle.run_search.specs.States.{events_of}
use Rattle.run_search.proofs.Breaking.{fewest_all, fewest_more}
use Rattle.run_search.proofs.task.fewest_events.Goals as goal

pub loop-p-preserved : goal.loop-p-preserved
loop-p-preserved c = record {
  fewest = fewest_more c.args.node.now c.loop-p.p c.loop-p.sum c.fewest_of-sum.result c.loop-p.invariant.fewest
      (subst (λ (set : List LocalState). (local : LocalState) → Contains set local → c.fewest_of-sum.result ≤ events_of local) c.set.ensures c.fewest_of-sum.ensures.least);
  few = omega (arith, c.loop-p.invariant.few, c.fewest_of-sum.ensures.few);
}

pub returns : goal.returns
returns c = fewest_all c.args.spec.now c.args.node.now c.loop-p.p c.loop-p.sum (omega (arith, c.loop-p-test.false, c.n-p-end.ensures.value)) (let at = c.loop-p.auto.p-end in omega (arith, at, c.n-p-end.ensures.value)) c.loop-p.invariant.fewest
