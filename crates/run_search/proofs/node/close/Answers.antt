use Rattle.std.proofs.Common.{get_or, arith, inl, inr, below_more}
use Rattle.run_search.specs.States.{blank}
use Rattle.run_search.proofs.Closing.{at_place, read_there}
use Rattle.run_search.proofs.node.close.Goals as goal

pub loop-local-preserved : goal.loop-local-preserved
loop-local-preserved c =
    let i = c.loop-local.local-index in
    let old = c.args.old.now in
    record {
      kept = below_more _ _ (λ k below. c.in_ok-go_on.ensures.kept (get_or old k blank) (c.loop-local.invariant.kept k below)) c.in_ok-go_on.ensures.there;
      come = λ to there. elim (c.in_ok-go_on.ensures.come to there) [
        | inl before ↦ c.loop-local.invariant.come to before
        | inr more ↦ (get_or old i blank, read_there old i c.loop-local-test.true, more.0, more.1)
      ];
      closed = c.in_ok-go_on.ensures.closed c.loop-local.invariant.closed;
    }

pub returns : goal.returns
returns c = record {
  kept = λ local there. at_place c.args.old.now c.loop-local.set.items local (λ k below. c.loop-local.invariant.kept k (omega (arith, below, c.loop-local-test.false))) there;
  come = c.loop-local.invariant.come;
  closed = c.loop-local.invariant.closed;
}
