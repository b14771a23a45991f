use Rattle.std.proofs.Common.{◌<◌, ◌≤◌, length, sym, subst, arith}
use Rattle.std.proofs.lemmas.Option.{slice_get_within}
use Rattle.run_search.specs.Judging.{DoNodesKeep}
use Rattle.run_search.specs.Nodes.{AreGathered, CoverAllReachable}
use Rattle.run_search.proofs.Gathering.{covers_at_end, edges_more}
use Rattle.run_search.proofs.KeepingTasks.{all_judged, both_judged, kept_grown, none_is, none_so_far, runs_keep, too_many_kept}
use Rattle.run_search.proofs.judging.judge.Goals as goal

pub loop-cursor-init : goal.loop-cursor-init
loop-cursor-init g c = record {
  searched = c.in_ok-explored.ensures;
  edges = λ i node below. absurd (omega (arith, below));
  kept = none_so_far c.args.spec.now c.args.most c.in_ok-explored.explored.nodes.items 0;
  judged = omega arith;
  within = omega arith;
}

pub first_breaking-requires-clause-gathered : goal.first_breaking-requires-clause-gathered
first_breaking-requires-clause-gathered g c = subst (AreGathered c.args.spec.now) (sym c.as_slice-nodes.ensures.value) c.loop-cursor.invariant.searched.gathered

pub loop-cursor-preserved : goal.loop-cursor-preserved
loop-cursor-preserved g c =
    let old = c.loop-cursor.explored.nodes.items in
    let new = c.visit.new.self.nodes.items in
    let below : c.loop-cursor.cursor < length old = omega (arith, c.loop-cursor-test.true, c.len.ensures) in
    let found = none_is (DoNodesKeep c.args.spec.now c.args.most c.as_slice-nodes.result.now c.loop-cursor.judged (length c.as_slice-nodes.result.now)) c.in_ok-events.field-0 c.in_default.is c.in_ok-events.ensures.kept in
    let kept = both_judged c.args.spec.now c.args.most old c.as_slice-nodes.result.now c.loop-cursor.judged c.as_slice-nodes.ensures.value c.loop-cursor.invariant.kept found in
    record {
      searched = c.in_ok-visit.ensures.searched;
      edges = edges_more c.args.spec.now old new c.loop-cursor.cursor c.in_ok-visit.ensures.grown below c.loop-cursor.invariant.edges c.in_ok-visit.ensures.edges;
      kept = kept_grown c.args.spec.now c.args.most old new c.len-judged.result c.in_ok-visit.ensures.grown (omega (arith, c.len-judged.ensures)) kept;
      judged = omega (arith, c.loop-cursor-test.true, c.len.ensures, c.len-judged.ensures);
      within = omega (arith, c.if-judged-limit.false);
    }

pub returns : goal.returns
returns g c =
    let nodes = c.loop-cursor.explored.nodes.items in
    let past : length nodes ≤ c.loop-cursor.cursor = omega (arith, c.loop-cursor-test.false, c.len.ensures) in
    let covers : CoverAllReachable c.args.spec.now nodes =
    covers_at_end c.args.spec.now nodes c.loop-cursor.invariant.searched.gathered (λ i node is. c.loop-cursor.invariant.edges i node (let inside = slice_get_within nodes i node is in omega (arith, inside, past)) is) in
    let kept = all_judged c.args.spec.now c.args.most nodes c.loop-cursor.judged (omega (arith, past, c.loop-cursor.invariant.judged)) c.loop-cursor.invariant.kept in
    record {
      judged = (
        runs_keep c.args.spec.now c.args.most nodes c.requires covers kept,
        (nodes, covers, omega (arith, c.len-2.ensures), omega (arith, c.len-2.ensures, past, c.loop-cursor.invariant.judged, c.loop-cursor.invariant.within)),
      );
      beyond = tt;
    }

pub returns-then-judged-limit : goal.returns-then-judged-limit
returns-then-judged-limit g c =
    let nodes = c.loop-cursor.explored.nodes.items in
    let found = none_is (DoNodesKeep c.args.spec.now c.args.most c.as_slice-nodes.result.now c.loop-cursor.judged (length c.as_slice-nodes.result.now)) c.in_ok-events.field-0 c.in_default.is c.in_ok-events.ensures.kept in
    let kept = both_judged c.args.spec.now c.args.most nodes c.as_slice-nodes.result.now c.loop-cursor.judged c.as_slice-nodes.ensures.value c.loop-cursor.invariant.kept found in
    record {
      judged = tt;
      beyond = λ is.
          too_many_kept c.args.spec.now c.args.most c.args.limit nodes c.requires (omega (arith, c.if-judged-limit.true, c.len-judged.ensures)) c.loop-cursor.invariant.searched.gathered
          c.loop-cursor.invariant.searched.apart kept;
    }
