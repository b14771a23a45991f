use Rattle.std.proofs.Common.{Bool, subst, ◌<◌, ◌∙◌, length, sym, ap, arith, inl, inr}
use Rattle.std.proofs.lemmas.Bool.{cases_eq}
use Rattle.std.proofs.lemmas.Option.{slice_get_within}
use Rattle.std.specs.Prelude.{slice_get}
use Rattle.room_core.specs.Calls.{configuration_of}
use Rattle.room_search.specs.Nodes.{LeadsInside}
use Rattle.room_search.proofs.Covering.{covers}
use Rattle.room_search.proofs.Searching.{inside_grown, node_before, room_grown}
use Rattle.room_search.proofs.explored.explore.Goals as goal

pub loop-cursor-preserved : goal.loop-cursor-preserved
loop-cursor-preserved g c =
    let spec = c.args.subject.now.spec.now in
    let start = configuration_of c.args.subject.now.start.now in
    let old = c.loop-cursor.explored in
    let new = c.visit.new.self in
    let further = c.in_ok-visit.ensures.further in
    let table = further.moves.table in
    let here : c.loop-cursor.cursor < length old.nodes.items = omega (arith, c.loop-cursor-test.true, c.len.ensures) in
    record {
      searched = further.searched;
      start = room_grown old.moves.table.keys new.moves.table.keys old.nodes.items new.nodes.items start table further.nodes c.loop-cursor.invariant.start;
      leads = λ index node below is. elim (cases_eq index c.loop-cursor.cursor) [
        | inl same ↦ c.in_ok-visit.ensures.leads node (node_before old.nodes.items new.nodes.items c.loop-cursor.cursor node further.nodes here (ap (λ k. slice_get new.nodes.items k) (sym same) ∙ is))
        | inr apart ↦
            let less : index < c.loop-cursor.cursor = omega (arith, below, apart) in
            let was = node_before old.nodes.items new.nodes.items index node further.nodes (omega (arith, less, here)) is in
            inside_grown spec start old.moves.table.keys new.moves.table.keys old.nodes.items new.nodes.items old.lost new.lost node (c.loop-cursor.invariant.searched.nodes index node was) table further.nodes further.lost (c.loop-cursor.invariant.leads index node less was)
      ];
      within = omega (arith, c.loop-cursor-test.true, c.len.ensures, c.len-in-loop-cursor.ensures, c.if-len-limit.false);
    }

pub returns-clause-covers : goal.returns-clause-covers
returns-clause-covers g c = λ none.
    let spec = c.args.subject.now.spec.now in
    let start = configuration_of c.args.subject.now.start.now in
    let explored = c.loop-cursor.explored in
    covers spec start explored.moves.table.keys explored.nodes.items c.shape-shape.ensures.limits c.requires c.spec-spec.ensures.run (record {
      first = c.loop-cursor.invariant.start;
      closed = λ index node is.
          subst (λ (lost : Bool). LeadsInside spec start explored.moves.table.keys explored.nodes.items lost node) none
          (c.loop-cursor.invariant.leads index node (let inside = slice_get_within explored.nodes.items index node is in omega (arith, inside, c.loop-cursor-test.false, c.len.ensures)) is);
    })
