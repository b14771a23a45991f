-- Nodes are gathered: what each has, and where it leads.
use Rattle.std.proofs.Common.{◌≡◌, ℕ, zero, suc, ◌+◌, ◌<◌, ◌≤◌, List, [], ◌∷◌, ◌++◌, append_assoc, length, get_or, set, Option, Some, None, refl, sym, ap, ◌∙◌, subst, arith, inl, inr, ◌⊎◌}
use Rattle.std.specs.Prelude.{slice_get}
use Rattle.std.specs.List.{Contains}
use Rattle.std.proofs.lemmas.Bool.{cases_eq, cases_lt}
use Rattle.std.proofs.lemmas.List.{append-nil, length_push}
use Rattle.std.proofs.lemmas.List.Elements.{Contains-append_left, Contains-push, Contains-push_cases}
use Rattle.std.proofs.lemmas.Option.{get_or_from_slice_get, none-some, same_Some, slice_get-get_or, slice_get_within}
use Rattle.room_spec.specs.Rooms.{RoomSpec, processes}
use Rattle.transcript.proofs.CallerLemmas.{slice_get-append, slice_get-push}
use Rattle.run_search.specs.declared.local_state.LocalState.{LocalState}
use Rattle.run_search.specs.declared.local_state.Origin.{Origin}
use Rattle.run_search.specs.Nodes.{AreComplete, AreGathered, AreWithinRounds, Changes, CoverAllReachable, Covers, GoesAlone, HasEdge, HasEdges, HasEdgesBelow, HasParent, IsBehind, IsBelow, IsBelowLater, IsBelowOneWithEdges, IsEdge, IsFirst, IsFirstNode, IsGrown, IsNext, IsNodeAfter, IsSetClosed, IsWhole, IsWithinRounds, Node, NodesGrow, set_of}
use Rattle.run_search.specs.Limits.{HasAfter}
use Rattle.run_search.specs.States.{blank, local_of, state_of}
use Rattle.run_search.specs.Steps.{moved_by}
use Rattle.run_search.proofs.Closing.{first_within, moved_within, read_there, single_within}
use Rattle.run_search.proofs.Covering.{behind_above}
use Rattle.run_search.proofs.Places.{get_or-state, length-state}
use Rattle.run_search.proofs.Realising.{after_is, cover_all, first_realised}

-- ---- rounds

goes_within : (spec : RoomSpec) (row : List (Option ℕ)) (p steps : ℕ) (local to : LocalState) → IsWithinRounds spec local → GoesAlone spec row p steps local to → IsWithinRounds spec to
goes_within spec row p zero local to within same = subst (IsWithinRounds spec) same within
goes_within spec row p (suc steps) local to within goes = moved_within spec row p goes.0 to (goes_within spec row p steps local goes.0 within goes.1) goes.2.moves

grown_within : (spec : RoomSpec) (row : List (Option ℕ)) (p : ℕ) (from set : List LocalState) → IsGrown spec row p from set → AreWithinRounds spec from → AreWithinRounds spec set
grown_within spec row p from set grown within to there =
    let come = grown.come to there in
    goes_within spec row p come.2 come.0 to (within come.0 come.1) come.3

only : (local one : LocalState) → Contains (local ∷ []) one → local ≡ one
only local one there = elim (Contains-push_cases [] local one there) [ inl none ↦ absurd (omega (arith, none.1)) | inr same ↦ same ]

itself : (local : LocalState) → Contains (local ∷ []) local
itself local = Contains-push [] local

-- ---- the first node

first_node : (spec : RoomSpec) (node : Node) → IsFirst spec node → IsFirstNode spec node
first_node spec node first = record {
  row = first.row;
  each = λ p local within there.
      let come = (first.sets p within).come local there in
      let from : local_of spec [] p ≡ come.0 = only (local_of spec [] p) come.0 come.1 in
      (come.2, subst (λ (l : LocalState). GoesAlone spec node.row p come.2 l local) (sym from ∙ sym (get_or-state spec [] p blank within)) come.3);
}

first_covers : (spec : RoomSpec) (node : Node) → IsFirst spec node → Covers spec node (state_of spec [])
first_covers spec node first = record {
  width = length-state spec [];
  each = λ p within. subst (Contains (set_of node p)) (sym (get_or-state spec [] p blank within)) ((first.sets p within).kept (local_of spec [] p) (itself (local_of spec [] p)));
}

first_whole : (spec : RoomSpec) (node : Node) → IsFirst spec node → IsWhole spec node
first_whole spec node first = record {
  is = (first_realised spec node (first_node spec node first)).is;
  width = first.width;
  closed = λ p within. (first.sets p within).closed;
  rounds = λ p within. grown_within spec node.row p (local_of spec [] p ∷ []) (set_of node p) (first.sets p within) (single_within spec (local_of spec [] p) (first_within spec p));
  some = λ p within. (local_of spec [] p, (first.sets p within).kept (local_of spec [] p) (itself (local_of spec [] p)));
}

-- ---- the next node

next_after : (spec : RoomSpec) (node to : Node) (p : ℕ) (local next : LocalState) → p < processes spec → Contains (set_of node p) local → Changes spec node.row p local next → IsNext spec node p next to → IsNodeAfter spec node p local to
next_after spec node to p local next within there changes is = record {
  within = within;
  there = there;
  next = next;
  moves = changes.moves;
  row = is.row;
  own = λ one one_there.
      let come = is.own.come one one_there in
      (come.2, subst (λ (l : LocalState). GoesAlone spec to.row p come.2 l one) (sym (only next come.0 come.1)) come.3);
  others = λ q one below other one_there. (is.others q below other).come one one_there;
}

next_behind : (spec : RoomSpec) (node to : Node) (p : ℕ) (next : LocalState) → IsNext spec node p next to → IsBehind spec node p next to
next_behind spec node to p next is = record {
  row = is.row;
  own = is.own.kept next (itself next);
  others = λ q local below other there. (is.others q below other).kept local there;
}

next_whole : (spec : RoomSpec) (node to : Node) (p : ℕ) (local next : LocalState) → IsWhole spec node → p < processes spec → Contains (set_of node p) local → Changes spec node.row p local next → IsNext spec node p next to → IsWhole spec to
next_whole spec node to p local next whole within there changes is = record {
  is = after_is spec node p local to whole.is (next_after spec node to p local next within there changes is);
  width = is.width;
  closed = λ q below. elim (cases_eq q p) [
    | inl same ↦ subst (λ (r : ℕ). IsSetClosed spec to.row r (set_of to r)) (sym same) is.own.closed
    | inr other ↦ (is.others q below other).closed
  ];
  rounds = λ q below. elim (cases_eq q p) [
    | inl same ↦ subst (λ (r : ℕ). AreWithinRounds spec (set_of to r)) (sym same) (grown_within spec to.row p (next ∷ []) (set_of to p) is.own (single_within spec next (moved_within spec node.row p local next (whole.rounds p within local there) changes.moves)))
    | inr other ↦ grown_within spec to.row q (set_of node q) (set_of to q) (is.others q below other) (whole.rounds q below)
  ];
  some = λ q below. elim (cases_eq q p) [
    | inl same ↦ subst (λ (r : ℕ). (one : LocalState) × Contains (set_of to r) one) (sym same) (next, is.own.kept next (itself next))
    | inr other ↦ let before = whole.some q below in (before.0, (is.others q below other).kept before.0 before.1)
  ];
}

-- ---- more nodes

pub nodes_same : (nodes : List Node) → NodesGrow nodes nodes
nodes_same nodes = ([], sym (append-nil nodes))

pub nodes_more : (nodes : List Node) (to : Node) → NodesGrow nodes (nodes ++ to ∷ [])
nodes_more nodes to = (to ∷ [], refl)

pub nodes_on : (a b c : List Node) → NodesGrow a b → NodesGrow b c → NodesGrow a c
nodes_on a b c first second = (first.0 ++ second.0, second.1 ∙ ap (λ (l : List Node). l ++ second.0) first.1 ∙ append_assoc a first.0 second.0)

pub node_grown : (old new : List Node) (i : ℕ) (node : Node) → NodesGrow old new → slice_get old i ≡ Some node → slice_get new i ≡ Some node
node_grown old new i node grown is = ap (λ (l : List Node). slice_get l i) grown.1 ∙ slice_get-append old grown.0 i (slice_get_within old i node is) ∙ is

pub edge_grown : (spec : RoomSpec) (old new : List Node) (node : Node) (p : ℕ) (local : LocalState) → NodesGrow old new → HasEdge spec old node p local → HasEdge spec new node p local
edge_grown spec old new node p local grown has next changes =
    let edge = has next changes in
    (edge.0, subst (λ (l : List Node). Contains l edge.0) (sym grown.1) (Contains-append_left old grown.0 edge.0 edge.1), edge.2)

pub node_there : (nodes : List Node) (i : ℕ) (node : Node) → slice_get nodes i ≡ Some node → Contains nodes node
node_there nodes i node is = (i, slice_get_within nodes i node is, get_or_from_slice_get nodes i node node is)

-- one node more, that comes after one of these
pub gathered_more : (spec : RoomSpec) (nodes : List Node) (j p : ℕ) (node to : Node) (local next : LocalState) → AreGathered spec nodes → slice_get nodes j ≡ Some node → p < processes spec → Contains (set_of node p) local
    → Changes spec node.row p local next → IsNext spec node p next to → (to.origin ≡ record { from = j; process = p; local = local }) → AreGathered spec (nodes ++ to ∷ [])
gathered_more spec nodes j p node to local next gathered is within there changes leads origin =
    let some = slice_get_within nodes j node is in
    let long = length_push nodes to in
    let last : (i : ℕ) (one : Node) → length nodes ≤ i → slice_get (nodes ++ to ∷ []) i ≡ Some one → (length nodes ≡ i) × (to ≡ one) = λ i one past one_is.
    let inside = slice_get_within (nodes ++ to ∷ []) i one one_is in
    let at : length nodes ≡ i = omega (arith, past, inside, long) in
    (at, same_Some to one (sym (slice_get-push nodes to) ∙ ap (slice_get (nodes ++ to ∷ [])) at ∙ one_is)) in
    record {
      first = (gathered.first.0, slice_get-append nodes (to ∷ []) 0 (omega (arith, some)) ∙ gathered.first.1, gathered.first.2);
      sound = record {
        first = λ one one_is. gathered.sound.first one (sym (slice_get-append nodes (to ∷ []) 0 (omega (arith, some))) ∙ one_is);
        each = λ i one positive one_is. elim (cases_lt i (length nodes)) [
          | inl below ↦
              let before = gathered.sound.each i one positive (sym (slice_get-append nodes (to ∷ []) i below) ∙ one_is) in
              record { before = before.before; earlier = before.earlier; there = slice_get-append nodes (to ∷ []) one.origin.from (slice_get_within nodes one.origin.from before.before before.there) ∙ before.there; after = before.after; edge = before.edge }
          | inr past ↦
              let at = last i one past one_is in
              subst (HasParent spec (nodes ++ to ∷ []) i) at.1
              (record {
                before = node;
                earlier = let from = ap (λ (o : Origin). o.from) origin in omega (arith, some, at.0, from);
                there = ap (λ (o : Origin). slice_get (nodes ++ to ∷ []) o.from) origin ∙ slice_get-append nodes (to ∷ []) j some ∙ is;
                after = subst (λ (o : Origin). IsNodeAfter spec node o.process o.local to) (sym origin) (next_after spec node to p local next within there changes leads);
                edge = subst (λ (o : Origin). IsEdge spec node o.process o.local to) (sym origin) (record { next = next; changes = changes; leads = leads });
              })
        ];
      };
      whole = λ i one one_is. elim (cases_lt i (length nodes)) [
        | inl below ↦ gathered.whole i one (sym (slice_get-append nodes (to ∷ []) i below) ∙ one_is)
        | inr past ↦ subst (IsWhole spec) (last i one past one_is).1 (next_whole spec node to p local next (gathered.whole j node is) within there changes leads)
      ];
    }

-- the first alone
pub gathered_first : (spec : RoomSpec) (node : Node) → IsFirst spec node → AreGathered spec (node ∷ [])
gathered_first spec node first =
    let only_one : (i : ℕ) (one : Node) → slice_get (node ∷ []) i ≡ Some one → (i ≡ 0) × (node ≡ one) = λ i one is.
    let inside = slice_get_within (node ∷ []) i one is in
    let at : i ≡ 0 = omega (arith, inside) in
    (at, same_Some node one (ap (slice_get (node ∷ [])) (sym at) ∙ is)) in
    record {
      first = (node, refl, first);
      sound = record {
        first = λ one is. subst (IsFirstNode spec) (only_one 0 one is).1 (first_node spec node first);
        each = λ i one positive is. absurd (omega (arith, positive, (only_one i one is).0));
      };
      whole = λ i one is. subst (IsWhole spec) (only_one i one is).1 (first_whole spec node first);
    }

-- ---- edges

-- where a local state leads to is there
pub edge_here : (spec : RoomSpec) (nodes : List Node) (node to above : Node) (p : ℕ) (local next : LocalState) → Contains nodes above → IsBelow to above → Changes spec node.row p local next → IsNext spec node p next to → HasEdge spec nodes node p local
edge_here spec nodes node to above p local next there below changes leads other other_changes =
    let same : next ≡ other = same_Some next other (sym changes.moves ∙ other_changes.moves) in
    (above, there, subst (λ (l : LocalState). IsBehind spec node p l above) same (behind_above spec node to above p next below.row below.sets (next_behind spec node to p next leads)))

pub below_itself : (node : Node) → IsBelow node node
below_itself node = record { row = refl; sets = λ p local there. there }

below_on : (one other above : Node) → IsBelow one other → IsBelow other above → IsBelow one above
below_on one other above first second = record { row = second.row ∙ first.row; sets = λ p local there. second.sets p local (first.sets p local there) }

-- ---- all

-- what is in a node is in one from which the writes lead to some of these, if each has them or is in a later one
with_edges : (spec : RoomSpec) (nodes : List Node) → ((i : ℕ) (node : Node) → slice_get nodes i ≡ Some node → HasEdges spec nodes node ⊎ IsBelowLater nodes i node)
    → (n i : ℕ) (node : Node) → length nodes ≤ i + n → slice_get nodes i ≡ Some node → IsBelowOneWithEdges spec nodes node
with_edges spec nodes each zero i node past is = let inside = slice_get_within nodes i node is in absurd (omega (arith, past, inside))
with_edges spec nodes each (suc n) i node past is = elim (each i node is) [
  | inl edges ↦ (node, node_there nodes i node is, below_itself node, edges)
  | inr later ↦
      let above = with_edges spec nodes each n later.0 later.1 (omega (arith, past, later.2)) later.3 in
      (above.0, above.1, below_on node later.1 above.0 later.4 above.2, above.3)
]

pub complete_at_end : (spec : RoomSpec) (nodes : List Node) → AreGathered spec nodes → ((i : ℕ) (node : Node) → slice_get nodes i ≡ Some node → HasEdges spec nodes node ⊎ IsBelowLater nodes i node) → AreComplete spec nodes
complete_at_end spec nodes gathered edges = record {
  each = λ i node is. (gathered.whole i node is).is;
  first = (gathered.first.0, node_there nodes 0 gathered.first.0 gathered.first.1, first_covers spec gathered.first.0 gathered.first.2);
  closed = λ i node is. (gathered.whole i node is).closed;
  edges = λ i node is. with_edges spec nodes edges (length nodes) i node (omega arith) is;
}

pub covers_at_end : (spec : RoomSpec) (nodes : List Node) → AreGathered spec nodes → ((i : ℕ) (node : Node) → slice_get nodes i ≡ Some node → HasEdges spec nodes node ⊎ IsBelowLater nodes i node) → CoverAllReachable spec nodes
covers_at_end spec nodes gathered edges = cover_all spec nodes gathered.sound (complete_at_end spec nodes gathered edges)

-- ---- where a local state leads to

pub local_read : (node : Node) (p index : ℕ) (list : List LocalState) (local : LocalState) → list ≡ set_of node p → slice_get (set_of node p) index ≡ Some local → get_or list index blank ≡ local
local_read node p index list local list_is is = ap (λ (l : List LocalState). get_or l index blank) list_is ∙ get_or_from_slice_get (set_of node p) index local blank is

pub moved_read : (spec : RoomSpec) (row : List (Option ℕ)) (node : Node) (p index : ℕ) (list : List LocalState) (local : LocalState) (result : Option LocalState) → row ≡ node.row → list ≡ set_of node p → slice_get (set_of node p) index ≡ Some local
    → result ≡ moved_by spec row p (get_or list index blank) (get_or list index blank).due → result ≡ moved_by spec node.row p local local.due
moved_read spec row node p index list local result row_is list_is is moved =
    moved
    ∙ ap (λ (r : List (Option ℕ)). moved_by spec r p (get_or list index blank) (get_or list index blank).due) row_is
    ∙ ap (λ (l : LocalState). moved_by spec node.row p l l.due) (local_read node p index list local list_is is)

pub none_written : (spec : RoomSpec) (node : Node) (p : ℕ) (local : LocalState) → None ≡ moved_by spec node.row p local local.due → (next : LocalState) → Changes spec node.row p local next → ⊥
none_written spec node p local none next changes = none-some next (none ∙ changes.moves)

pub within_read : (spec : RoomSpec) (node : Node) (p index : ℕ) (list : List LocalState) → IsWhole spec node → p < processes spec → list ≡ set_of node p → index < length list → IsWithinRounds spec (get_or list index blank)
within_read spec node p index list whole within list_is below =
    let long = ap (λ (l : List LocalState). length l) list_is in
    subst (λ (l : List LocalState). IsWithinRounds spec (get_or l index blank)) (sym list_is) (whole.rounds p within (get_or (set_of node p) index blank) (read_there (set_of node p) index (omega (arith, below, long))))

pub edges_at : (spec : RoomSpec) (nodes : List Node) (node : Node) (p : ℕ) (local : LocalState) → HasEdgesBelow spec nodes node p (length (set_of node p)) → Contains (set_of node p) local → HasEdge spec nodes node p local
edges_at spec nodes node p local edges there = edges there.0 local there.1 (slice_get-get_or (set_of node p) there.0 local there.1 ∙ ap Some there.2)

pub edges_grown : (spec : RoomSpec) (old new : List Node) (node : Node) → NodesGrow old new → HasEdges spec old node → HasEdges spec new node
edges_grown spec old new node grown has p local within there = edge_grown spec old new node p local grown (has p local within there)

later_grown : (old new : List Node) (index : ℕ) (node : Node) → NodesGrow old new → IsBelowLater old index node → IsBelowLater new index node
later_grown old new index node grown later = (later.0, later.1, later.2, node_grown old new later.0 later.1 grown later.3, later.4)

-- one node more has its edges
pub edges_more : (spec : RoomSpec) (old new : List Node) (cursor : ℕ) → NodesGrow old new → cursor < length old
    → ((i : ℕ) (node : Node) → i < cursor → slice_get old i ≡ Some node → HasEdges spec old node ⊎ IsBelowLater old i node)
    → ((node : Node) → slice_get old cursor ≡ Some node → HasEdges spec new node ⊎ IsBelowLater new cursor node)
    → (i : ℕ) (node : Node) → i < cursor + 1 → slice_get new i ≡ Some node → HasEdges spec new node ⊎ IsBelowLater new i node
edges_more spec old new cursor grown inside before last i node below is =
    let was : slice_get old i ≡ Some node = sym (slice_get-append old grown.0 i (omega (arith, below, inside))) ∙ ap (λ (l : List Node). slice_get l i) (sym grown.1) ∙ is in
    elim (cases_eq i cursor) [
      | inl same ↦ subst (λ (k : ℕ). HasEdges spec new node ⊎ IsBelowLater new k node) (sym same) (last node (ap (slice_get old) (sym same) ∙ was))
      | inr other ↦ elim (before i node (omega (arith, below, other)) was) [
        | inl edges ↦ inl (edges_grown spec old new node grown edges)
        | inr later ↦ inr (later_grown old new i node grown later)
      ]
    ]

-- ---- from one node of a list

-- a node that has what this one has after the write
pub edge_behind : (spec : RoomSpec) (nodes : List Node) (node above : Node) (p : ℕ) (local new : LocalState) (row : List (Option ℕ)) → p < processes spec → Changes spec node.row p local new → row ≡ set node.row p new.last → Contains nodes above → HasAfter spec node p new row above → HasEdge spec nodes node p local
edge_behind spec nodes node above p local new row within changes row_is there has next other =
    let same : new ≡ next = same_Some new next (sym changes.moves ∙ other.moves) in (
      above,
      there,
      subst (λ (l : LocalState). IsBehind spec node p l above) same (record {
        row = has.row_is ∙ row_is;
        own = has.all p new within (inl (refl, refl));
        others = λ q one below apart in_node. has.all q one below (inr (apart, in_node));
      }),
    )

pub pushed_there : (nodes : List Node) (to : Node) → Contains (nodes ++ to ∷ []) to
pushed_there nodes to = Contains-push nodes to

pub edges_below_more : (spec : RoomSpec) (old new : List Node) (node : Node) (p count : ℕ) → NodesGrow old new → HasEdgesBelow spec old node p count → ((local : LocalState) → slice_get (set_of node p) count ≡ Some local → HasEdge spec new node p local)
    → HasEdgesBelow spec new node p (count + 1)
edges_below_more spec old new node p count grown before last i local below is = elim (cases_eq i count) [
  | inl same ↦ last local (ap (slice_get (set_of node p)) (sym same) ∙ is)
  | inr other ↦ edge_grown spec old new node p local grown (before i local (omega (arith, below, other)) is)
]
