use Rattle.std.proofs.Common.{suc, refl, sym, ◌∙◌}
use Rattle.run_search.proofs.Closing.{moved_within}
use Rattle.run_search.proofs.Chains.{left_more, none_left}
use Rattle.run_search.proofs.Same.{other_local}
use Rattle.run_search.proofs.node.comes_to.Goals as goal

pub loop-to-init : goal.loop-to-init
loop-to-init c = record { rounds = c.requires.rounds; reached = (0, refl); left = λ steps goes. (steps, goes) }

pub loop-to-preserved : goal.loop-to-preserved
loop-to-preserved c =
    let before = c.loop-to.invariant in
    record {
      rounds = moved_within c.args.spec.now c.args.row.now.items c.args.p c.loop-to.now c.in-Some.new before.rounds c.in-Some.ensures.moves;
      reached = (suc before.reached.0, (c.loop-to.now, before.reached.1, c.in-Some.ensures));
      left = λ steps goes. let rest = before.left steps goes in left_more c.args.spec.now c.args.row.now.items c.args.p rest.0 c.loop-to.now c.in-Some.new c.args.to rest.1 (other_local c.loop-to.now c.args.to (sym c.loop-to-test.true ∙ c.ne.ensures)) c.in-Some.ensures;
    }

pub returns-in_default : goal.returns-in_default
returns-in_default c = λ steps goes.
    let rest = c.loop-to.invariant.left steps goes in none_left c.args.spec.now c.args.row.now.items c.args.p rest.0 c.loop-to.now c.args.to rest.1 (other_local c.loop-to.now c.args.to (sym c.loop-to-test.true ∙ c.ne.ensures)) c.in_default.ensures
