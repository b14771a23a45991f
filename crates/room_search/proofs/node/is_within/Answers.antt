use Rattle.std.proofs.Common.{get_or, sym, ◌∙◌, arith, below_more}
use Rattle.room_search.proofs.Growing.{number_there}
use Rattle.room_search.proofs.Sets.{each_place}
use Rattle.room_search.proofs.node.is_within.Goals as goal

pub loop-number-preserved : goal.loop-number-preserved
loop-number-preserved c = below_more _ _ c.loop-number.invariant (number_there c.args.all.now (get_or c.args.some.now c.loop-number.number-index 0) (sym c.contains.ensures.value ∙ c.if-not-contains.false))

pub returns : goal.returns
returns c = λ yes. each_place c.args.some.now c.args.all.now (λ k below. c.loop-number.invariant k (omega (arith, below, c.loop-number-test.false)))
