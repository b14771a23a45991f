use Rattle.std.proofs.Common.{◌≡◌, ◌<◌, ◌∷◌, ◌++◌, [], List, get_or, length, set, refl, sym, subst, ap, ◌∙◌, arith}
use Rattle.std.specs.Prelude.{slice_get}
use Rattle.std.proofs.lemmas.Option.{get_or_from_slice_get, slice_get-get_or}
use Rattle.transcript.proofs.CallerLemmas.{slice_get-push}
use Rattle.run_search.specs.Limits.{AreApart, HasAfter, IsWithoutAfter}
use Rattle.run_search.specs.Nodes.{AreGathered, Changes, HasEdge, IsNext, IsWhole, Node, set_of}
use Rattle.run_search.specs.States.{blank}
use Rattle.run_search.proofs.Closing.{read_there}
use Rattle.run_search.proofs.Gathering.{below_itself, edge_behind, edge_here, gathered_more, node_there, pushed_there}
use Rattle.run_search.proofs.Limiting.{apart_more, without_below}
use Rattle.run_search.proofs.explored.Explored.follow.Goals as goal

pub written-requires-clause-whole : goal.written-requires-clause-whole
written-requires-clause-whole c =
    let there = c.requires.there in
    let here : c.index-node.result.now ≡ there.0 = c.index-node.ensures ∙ get_or_from_slice_get c.args.self.now.nodes.items c.args.place.node there.0 c.index-node.result.now there.1 in
    subst (IsWhole c.args.spec.now) (sym here) (c.requires.searched.gathered.whole c.args.place.node there.0 there.1)

pub written-requires-clause-there : goal.written-requires-clause-there
written-requires-clause-there c =
    let there = c.requires.there in
    let here : c.index-node.result.now ≡ there.0 = c.index-node.ensures ∙ get_or_from_slice_get c.args.self.now.nodes.items c.args.place.node there.0 c.index-node.result.now there.1 in
    subst (λ (n : Node). c.args.place.index < length (set_of n c.args.place.process)) (sym here) there.2

pub edge-requires-clause-whole : goal.edge-requires-clause-whole
edge-requires-clause-whole c =
    let there = c.requires.there in
    let here : c.index-from.result.now ≡ there.0 = c.index-from.ensures ∙ get_or_from_slice_get c.args.self.now.nodes.items c.args.place.node there.0 c.index-from.result.now there.1 in
    subst (IsWhole c.args.spec.now) (sym here) (c.requires.searched.gathered.whole c.args.place.node there.0 there.1)

pub edge-requires-clause-there : goal.edge-requires-clause-there
edge-requires-clause-there c =
    let there = c.requires.there in
    let here : c.index-from.result.now ≡ there.0 = c.index-from.ensures ∙ get_or_from_slice_get c.args.self.now.nodes.items c.args.place.node there.0 c.index-from.result.now there.1 in
    subst (λ (n : Node). c.args.place.index < length (set_of n c.args.place.process)) (sym here) there.2

pub returns-in_default-clause-edge : goal.returns-in_default-clause-edge
returns-in_default-clause-edge c = λ node local is local_is next changes.
    let here : c.index-node.result.now ≡ node = c.index-node.ensures ∙ get_or_from_slice_get c.args.self.now.nodes.items c.args.place.node node c.index-node.result.now is in
    let p = c.args.place.process in
    let local_there = ap (λ (n : Node). slice_get (set_of n p) c.args.place.index) here ∙ local_is in
    absurd (c.in_default.ensures.changes local local_there next (subst (λ (n : Node). Changes c.args.spec.now n.row p local next) (sym here) changes))

pub row_after-row-requires : goal.row_after-row-requires
row_after-row-requires c =
    let there = c.requires.there in
    let here : c.index-node.result.now ≡ there.0 = c.index-node.ensures ∙ get_or_from_slice_get c.args.self.now.nodes.items c.args.place.node there.0 c.index-node.result.now there.1 in
    let whole : IsWhole c.args.spec.now c.index-node.result.now = subst (IsWhole c.args.spec.now) (sym here) (c.requires.searched.gathered.whole c.args.place.node there.0 there.1) in
    omega (arith, whole.is.width, c.requires.process)

pub has_after-requires-clause-width : goal.has_after-requires-clause-width
has_after-requires-clause-width c =
    let there = c.requires.there in
    let here : c.index.result.now ≡ there.0 = c.index.ensures ∙ get_or_from_slice_get c.args.self.now.nodes.items c.args.place.node there.0 c.index.result.now there.1 in
    let whole : IsWhole c.args.spec.now c.index.result.now = subst (IsWhole c.args.spec.now) (sym here) (c.requires.searched.gathered.whole c.args.place.node there.0 there.1) in
    whole.width

pub returns-then-has_after-clause-edge : goal.returns-then-has_after-clause-edge
returns-then-has_after-clause-edge c = λ node local is local_is.
    let here : c.index-node.result.now ≡ node = c.index-node.ensures ∙ get_or_from_slice_get c.args.self.now.nodes.items c.args.place.node node c.index-node.result.now is in
    let same : c.index.result.now ≡ node = c.index.ensures ∙ get_or_from_slice_get c.args.self.now.nodes.items c.args.place.node node c.index.result.now is in
    let p = c.args.place.process in
    let local_there = ap (λ (n : Node). slice_get (set_of n p) c.args.place.index) here ∙ local_is in
    let new = c.in-Some.new in
    let row = c.row_after-row.result.items in
    let changes = subst (λ (n : Node). Changes c.args.spec.now n.row p local new) here (c.in-Some.ensures.changes local local_there) in
    let row_is : row ≡ set node.row p new.last = c.row_after-row.ensures ∙ ap (λ (n : Node). set n.row p new.last) here in
    let found = c.if-has_after.ensures.has refl in
    edge_behind c.args.spec.now c.args.self.now.nodes.items node found.1 p local new row c.requires.process changes row_is (node_there c.args.self.now.nodes.items found.0 found.1 found.2)
    (subst (λ (n : Node). HasAfter c.args.spec.now n p new row found.1) same found.3)

pub returns-clause-searched : goal.returns-clause-searched
returns-clause-searched c =
    let there = c.requires.there in
    let here : c.index-node.result.now ≡ there.0 = c.index-node.ensures ∙ get_or_from_slice_get c.args.self.now.nodes.items c.args.place.node there.0 c.index-node.result.now there.1 in
    let from : c.index-from.result.now ≡ there.0 = c.index-from.ensures ∙ get_or_from_slice_get c.args.self.now.nodes.items c.args.place.node there.0 c.index-from.result.now there.1 in
    let same : c.index.result.now ≡ there.0 = c.index.ensures ∙ get_or_from_slice_get c.args.self.now.nodes.items c.args.place.node there.0 c.index.result.now there.1 in
    let spec = c.args.spec.now in
    let nodes = c.args.self.now.nodes.items in
    let node = there.0 in
    let to = c.in_ok-to.to in
    let searched = c.requires.searched in
    let local = get_or (set_of node c.args.place.process) c.args.place.index blank in
    let local_is = slice_get-get_or (set_of node c.args.place.process) c.args.place.index blank there.2 in
    let p = c.args.place.process in
    let local_there = ap (λ (n : Node). slice_get (set_of n p) c.args.place.index) here ∙ local_is in
    let local_from = ap (λ (n : Node). slice_get (set_of n p) c.args.place.index) from ∙ local_is in
    let new = c.in-Some.new in
    let row = c.row_after-row.result.items in
    let changes = subst (λ (n : Node). Changes c.args.spec.now n.row p local new) here (c.in-Some.ensures.changes local local_there) in
    let row_is : row ≡ set node.row p new.last = c.row_after-row.ensures ∙ ap (λ (n : Node). set n.row p new.last) here in
    let next = subst (λ (n : Node). IsNext spec n p new to) from c.in_ok-to.ensures.next in
    let gathered : AreGathered spec (nodes ++ to ∷ []) =
    gathered_more spec nodes c.args.place.node p node to local new searched.gathered there.1 c.requires.process (read_there (set_of node p) c.args.place.index there.2) changes next (c.in_ok-to.ensures.origin local local_from) in
    record {
      gathered = subst (AreGathered spec) (sym c.in_ok-add.ensures.nodes) gathered;
      listed = c.in_ok-add.ensures.listed searched.listed;
      apart = subst (AreApart spec) (sym c.in_ok-add.ensures.nodes)
          (apart_more spec nodes to searched.gathered (gathered.whole (length nodes) to (slice_get-push nodes to)) searched.apart
          (λ i other is. without_below spec node to other p new row next row_is (subst (λ (n : Node). IsWithoutAfter spec n p new row other) same (c.if-has_after.ensures.without refl i other is))));
    }

pub returns-clause-edge : goal.returns-clause-edge
returns-clause-edge c = λ node local is local_is.
    let here : c.index-node.result.now ≡ node = c.index-node.ensures ∙ get_or_from_slice_get c.args.self.now.nodes.items c.args.place.node node c.index-node.result.now is in
    let from : c.index-from.result.now ≡ node = c.index-from.ensures ∙ get_or_from_slice_get c.args.self.now.nodes.items c.args.place.node node c.index-from.result.now is in
    let p = c.args.place.process in
    let local_there = ap (λ (n : Node). slice_get (set_of n p) c.args.place.index) here ∙ local_is in
    let new = c.in-Some.new in
    let to = c.in_ok-to.to in
    let changes = subst (λ (n : Node). Changes c.args.spec.now n.row p local new) here (c.in-Some.ensures.changes local local_there) in
    let next = subst (λ (n : Node). IsNext c.args.spec.now n p new to) from c.in_ok-to.ensures.next in
    subst (λ (l : List Node). HasEdge c.args.spec.now l node p local) (sym c.in_ok-add.ensures.nodes)
    (edge_here c.args.spec.now (c.args.self.now.nodes.items ++ to ∷ []) node to to p local new (pushed_there c.args.self.now.nodes.items to) (below_itself to) changes next)
