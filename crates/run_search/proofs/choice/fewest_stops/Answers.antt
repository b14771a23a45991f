use Rattle.std.proofs.Common.{◌≤◌, List, cond, subst, arith}
use Rattle.std.specs.List.{Contains}
use Rattle.run_search.specs.declared.local_state.LocalState.{LocalState}
use Rattle.run_search.specs.Outcomes.{ended, is_stopped}
use Rattle.run_search.proofs.Choosing.{stops_more}
use Rattle.run_search.proofs.choice.fewest_stops.Goals as goal

pub loop-p-preserved : goal.loop-p-preserved
loop-p-preserved c = record {
  fewest = stops_more c.args.node.now c.loop-p.p c.loop-p.sum c.stops_of-sum.result c.loop-p.invariant.fewest
      (subst (λ (set : List LocalState). (local : LocalState) → Contains set local → c.stops_of-sum.result ≤ cond (is_stopped (ended local.due)) 1 0) c.set.ensures c.stops_of-sum.ensures.fewest);
  few = omega (arith, c.loop-p.invariant.few, c.stops_of-sum.ensures.few);
}
