use Rattle.std.proofs.Common.{List, sym, subst}
use Rattle.std.specs.List.{Contains}
use Rattle.std.proofs.lemmas.List.Elements.{Contains-push}
use Rattle.room_core.specs.Calls.{configuration_of}
use Rattle.room_search.specs.declared.moves.Moves.{Moves}
use Rattle.room_search.specs.Moving.{AreMoves}
use Rattle.room_search.specs.Nodes.{AreNodes, IsIn, Node}
use Rattle.room_search.proofs.Searching.{no_nodes, nodes_push}
use Rattle.room_search.proofs.explored.opened.Goals as goal

pub returns-clause-searched : goal.returns-clause-searched
returns-clause-searched c =
    let spec = c.args.subject.now.spec.now in
    let moves = c.first_node.new.moves in
    let node = c.in_ok-node.node in
    record {
      moves = subst (AreMoves spec) (sym c.in_ok-add.ensures.moves) c.in_ok-node.ensures.moves.are;
      nodes = subst (λ (m : Moves). AreNodes spec m.table.keys c.add.new.self.nodes.items) (sym c.in_ok-add.ensures.moves)
          (subst (AreNodes spec moves.table.keys) (sym c.in_ok-add.ensures.nodes) (nodes_push spec moves.table.keys c.new.result.items node (no_nodes spec moves.table.keys c.new.result.items c.new.ensures.items) c.in_ok-node.ensures.node));
    }

pub returns-clause-start : goal.returns-clause-start
returns-clause-start c =
    let node = c.in_ok-node.node in (
      node,
      subst (λ (l : List Node). Contains l node) (sym c.in_ok-add.ensures.nodes) (Contains-push c.new.result.items node),
      subst (λ (m : Moves). IsIn m.table.keys node (configuration_of c.args.subject.now.start.now)) (sym c.in_ok-add.ensures.moves) c.in_ok-node.ensures.start,
    )

pub first_number-requires-clause-moves : goal.first_number-requires-clause-moves
first_number-requires-clause-moves c = c.nothing.ensures c.args.subject.now.spec.now
