use Rattle.std.proofs.Common.{◌≡◌, Some, length, sym, ap, ◌∙◌, arith}
use Rattle.std.specs.Prelude.{slice_get}
use Rattle.std.proofs.lemmas.Option.{same_Some, slice_get-get_or}
use Rattle.run_search.specs.Nodes.{Node, set_of}
use Rattle.run_search.proofs.Gathering.{edges_below_more, node_grown, nodes_on}
use Rattle.run_search.proofs.explored.Explored.follow_process.Goals as goal

pub count-count-requires : goal.count-count-requires
count-count-requires c =
    let there : slice_get c.args.self.now.nodes.items c.args.cursor ≡ Some c.index.result.now = slice_get-get_or c.args.self.now.nodes.items c.args.cursor c.index.result.now c.requires.there ∙ ap Some (sym c.index.ensures) in
    omega (arith, (c.requires.searched.gathered.whole c.args.cursor c.index.result.now there).width, c.requires.process)

pub follow-requires-clause-there : goal.follow-requires-clause-there
follow-requires-clause-there c =
    let there : slice_get c.args.self.now.nodes.items c.args.cursor ≡ Some c.index.result.now = slice_get-get_or c.args.self.now.nodes.items c.args.cursor c.index.result.now c.requires.there ∙ ap Some (sym c.index.ensures) in
    (c.index.result.now, node_grown c.args.self.now.nodes.items c.loop-index.self.nodes.items c.args.cursor c.index.result.now c.loop-index.invariant.grown there, omega (arith, c.loop-index-test.true, c.count-count.ensures))

pub loop-index-preserved : goal.loop-index-preserved
loop-index-preserved c = record {
  searched = c.in_ok-follow.ensures.searched;
  grown = nodes_on c.args.self.now.nodes.items c.loop-index.self.nodes.items c.follow.new.self.nodes.items c.loop-index.invariant.grown c.in_ok-follow.ensures.grown;
  edges = λ node is.
      edges_below_more c.args.spec.now c.loop-index.self.nodes.items c.follow.new.self.nodes.items node c.args.p c.loop-index.index c.in_ok-follow.ensures.grown (c.loop-index.invariant.edges node is)
      (λ local there. c.in_ok-follow.ensures.edge node local (node_grown c.args.self.now.nodes.items c.loop-index.self.nodes.items c.args.cursor node c.loop-index.invariant.grown is) there);
}

pub returns-clause-edges : goal.returns-clause-edges
returns-clause-edges c = λ node is i local below there.
    let read : slice_get c.args.self.now.nodes.items c.args.cursor ≡ Some c.index.result.now = slice_get-get_or c.args.self.now.nodes.items c.args.cursor c.index.result.now c.requires.there ∙ ap Some (sym c.index.ensures) in
    let same = ap (λ (n : Node). length (set_of n c.args.p)) (same_Some c.index.result.now node (sym read ∙ is)) in
    c.loop-index.invariant.edges node is i local (omega (arith, below, same, c.count-count.ensures, c.loop-index-test.false)) there
