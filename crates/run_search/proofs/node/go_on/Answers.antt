use Rattle.std.proofs.Common.{suc, List, refl, subst, sym}
use Rattle.std.specs.List.{Contains}
use Rattle.run_search.specs.declared.local_state.LocalState.{LocalState}
use Rattle.run_search.specs.Nodes.{IsSetClosed}
use Rattle.run_search.proofs.Closing.{added_in, closed_first, closed_known, closed_last, closed_next, come_first, come_next, moved_within}
use Rattle.run_search.proofs.node.go_on.Goals as goal

pub returns-then-not-branch-clause-closed : goal.returns-then-not-branch-clause-closed
returns-then-not-branch-clause-closed c = λ closed. subst (IsSetClosed c.args.spec.now c.args.row.now.items c.args.p) (sym (c.in_ok-put.ensures.known c.if-not-branch.true)) closed

pub loop-new-init : goal.loop-new-init
loop-new-init c =
    let old = c.args.set.now.items in
    let new = c.put.new.set.items in
    let local = c.args.local in
    record {
      rounds = c.requires.rounds;
      there = c.in_ok-put.ensures.there;
      kept = added_in old new local c.in_ok-put.ensures.added;
      reached = (0, refl);
      come = come_first c.args.spec.now c.args.row.now.items c.args.p old new local c.in_ok-put.ensures.added;
      closed = closed_first c.args.spec.now c.args.row.now.items c.args.p old new local c.in_ok-put.ensures.added;
    }

pub loop-new-preserved : goal.loop-new-preserved
loop-new-preserved c =
    let spec = c.args.spec.now in
    let row = c.args.row.now.items in
    let old = c.loop-new.set.items in
    let new = c.put-in-Some.new.set.items in
    let to = c.in-Some.new in
    let before = c.loop-new.invariant in
    let moves = c.in-Some.ensures in
    let added = c.in_ok-put-2.ensures.added in
    record {
      rounds = moved_within spec row c.args.p c.loop-new.now to before.rounds moves.moves;
      there = added_in old new to added c.args.local before.there;
      kept = λ one there. added_in old new to added one (before.kept one there);
      reached = (suc before.reached.0, (c.loop-new.now, before.reached.1, moves));
      come = come_next spec row c.args.p c.args.set.now.items old new c.args.local c.loop-new.now to added before.reached moves before.come;
      closed = λ closed. closed_next spec row c.args.p old new c.loop-new.now to added c.in_ok-put-2.ensures.there moves (before.closed closed);
    }

pub returns-clause-closed : goal.returns-clause-closed
returns-clause-closed c = λ closed. closed_last c.args.spec.now c.args.row.now.items c.args.p c.loop-new.set.items c.loop-new.now c.in_default.ensures (c.loop-new.invariant.closed closed)

pub returns-then-not-branch-2-clause-kept : goal.returns-then-not-branch-2-clause-kept
returns-then-not-branch-2-clause-kept c = λ one there. subst (λ (l : List LocalState). Contains l one) (sym (c.in_ok-put-2.ensures.known c.if-not-branch-2.true)) (c.loop-new.invariant.kept one there)

pub returns-then-not-branch-2-clause-come : goal.returns-then-not-branch-2-clause-come
returns-then-not-branch-2-clause-come c = λ to there. c.loop-new.invariant.come to (subst (λ (l : List LocalState). Contains l to) (c.in_ok-put-2.ensures.known c.if-not-branch-2.true) there)

pub returns-then-not-branch-2-clause-closed : goal.returns-then-not-branch-2-clause-closed
returns-then-not-branch-2-clause-closed c = λ closed.
    let same = c.in_ok-put-2.ensures.known c.if-not-branch-2.true in
    let there = subst (λ (l : List LocalState). Contains l c.in-Some.new) same c.in_ok-put-2.ensures.there in
    subst (IsSetClosed c.args.spec.now c.args.row.now.items c.args.p) (sym same)
    (closed_known c.args.spec.now c.args.row.now.items c.args.p c.loop-new.set.items c.loop-new.now c.in-Some.new there c.in-Some.ensures (c.loop-new.invariant.closed closed))
