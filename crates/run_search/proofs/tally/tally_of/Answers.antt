use Rattle.std.proofs.Common.{◌≡◌, Some, sym, ap, ◌∙◌, arith}
use Rattle.std.specs.Prelude.{slice_get}
use Rattle.std.proofs.lemmas.Option.{slice_get-get_or, slice_get_within}
use Rattle.run_search.proofs.Tallying.{nodes_noted}
use Rattle.run_search.proofs.tally.tally_of.Goals as goal

pub returns-clause-noted : goal.returns-clause-noted
returns-clause-noted c = λ i node is. c.loop-index.invariant.noted i node (let inside = slice_get_within c.args.nodes.now i node is in let at = c.loop-index.auto.index-end in omega (arith, inside, at, c.loop-index-test.false)) is

pub loop-index-preserved : goal.loop-index-preserved
loop-index-preserved c =
    let one = c.in_ok-take.ensures in
    let i = c.loop-index.index in
    let node = c.index-nodes-index.result in
    let here : slice_get c.args.nodes.now i ≡ Some node = slice_get-get_or c.args.nodes.now i node (let at = c.loop-index.auto.index-end in omega (arith, at, c.loop-index-test.true)) ∙ ap Some (sym c.index-nodes-index.is) in
    record {
      ends = one.ends c.args.nodes.now here c.loop-index.invariant.ends;
      seen = one.seen;
      noted = nodes_noted c.args.spec.now c.args.crashes c.args.nodes.now i node c.loop-index.listing.tally.ends.keys c.take.new.self.tally.ends.keys c.loop-index.listing.tally.witnesses.items c.take.new.self.tally.witnesses.items here one.grown one.noted c.loop-index.invariant.noted;
    }
