use Rattle.std.proofs.Common.{sym, subst}
use Rattle.room_core.specs.Calls.{RoomState}
use Rattle.room_search.specs.Reaching.{IsOpen}
use Rattle.room_search.proofs.Completing.{found_all}
use Rattle.room_search.proofs.Covering.{node_at}
use Rattle.room_search.proofs.Going.{spec_after}
use Rattle.room_search.proofs.Taken.{once}
use Rattle.room_search.proofs.search.search_after.Goals as goal

pub explore-requires : goal.explore-requires
explore-requires g c = spec_after c.args.from.now.spec.now c.in_ok-start.start c.args.from.now.acts.now c.in_ok-start.ensures

pub returns-clause-complete : goal.returns-clause-complete
returns-clause-complete g c = λ zero outcome opened.
    let spec = c.args.from.now.spec.now in
    let explored = c.in_ok-explored.explored in
    let taking = c.in_ok-taken.taken.taking in
    found_all spec c.args.crashes c.in_ok-start.start explored.moves.table.keys explored.nodes.items taking.outcomes.items c.shape-shape.ensures.limits c.each_is_settled_for.ensures.each
    (c.in_ok-explored.ensures.covers (c.in_ok-taken.ensures.lost zero)) (λ node there. c.in_ok-taken.ensures.all zero there.0 node (node_at explored.nodes.items node there)) outcome
    (subst (λ (room : RoomState). IsOpen room spec c.args.crashes outcome) (sym c.in_ok-start.ensures) opened)

pub returns-clause-distinct : goal.returns-clause-distinct
returns-clause-distinct g c = once c.in_ok-taken.taken.taking.ends.keys c.in_ok-taken.taken.taking.outcomes.items c.in_ok-taken.ensures.taking.kept c.len-count.ensures.unique
