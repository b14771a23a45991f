use Rattle.std.proofs.Common.{◌<◌, length, arith}
use Rattle.std.proofs.lemmas.Option.{slice_get_within}
use Rattle.run_search.proofs.Limiting.{too_many}
use Rattle.run_search.proofs.Gathering.{covers_at_end, edges_more}
use Rattle.run_search.proofs.explored.explore.Goals as goal

pub loop-cursor-init : goal.loop-cursor-init
loop-cursor-init g c = record {
  searched = c.in_ok-explored.ensures;
  edges = λ i node below. absurd (omega (arith, below));
  within = omega arith;
}

pub loop-cursor-preserved : goal.loop-cursor-preserved
loop-cursor-preserved g c =
    let below : c.loop-cursor.cursor < length c.loop-cursor.explored.nodes.items = omega (arith, c.loop-cursor-test.true, c.len.ensures) in
    record {
      searched = c.in_ok-visit.ensures.searched;
      edges = edges_more c.args.spec.now c.loop-cursor.explored.nodes.items c.visit.new.self.nodes.items c.loop-cursor.cursor c.in_ok-visit.ensures.grown below c.loop-cursor.invariant.edges c.in_ok-visit.ensures.edges;
      within = omega (arith, c.loop-cursor-test.true, c.len.ensures, c.len-in-loop-cursor.ensures, c.if-len-limit.false);
    }

pub returns-clause-covers : goal.returns-clause-covers
returns-clause-covers g c = covers_at_end c.args.spec.now c.loop-cursor.explored.nodes.items c.loop-cursor.invariant.searched.gathered
    (λ i node is. c.loop-cursor.invariant.edges i node (let inside = slice_get_within c.loop-cursor.explored.nodes.items i node is in omega (arith, inside, c.loop-cursor-test.false, c.len.ensures)) is)

pub returns-clause-gathered : goal.returns-clause-gathered
returns-clause-gathered g c = c.loop-cursor.invariant.searched.gathered

pub returns-then-len-limit-clause-beyond : goal.returns-then-len-limit-clause-beyond
returns-then-len-limit-clause-beyond g c = λ is.
    too_many c.args.spec.now c.args.limit c.loop-cursor.explored.nodes.items (omega (arith, c.if-len-limit.true, c.len-in-loop-cursor.ensures)) c.loop-cursor.invariant.searched.gathered c.loop-cursor.invariant.searched.apart
