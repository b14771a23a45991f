-- A run enters a node.
use Rattle.std.proofs.Common.{◌≡◌, ℕ, ◌<◌, List, [], length, get_or, set, Option, Some, refl, sym, ap, ◌∙◌, subst, arith, inl, inr}
use Rattle.std.specs.Prelude.{slice_get}
use Rattle.std.proofs.lemmas.Bool.{cases_eq}
use Rattle.std.proofs.lemmas.List.{get_or-set_other, get_or-set_same}
use Rattle.std.proofs.lemmas.Option.{get_or_from_slice_get, slice_get-get_or}
use Rattle.room_spec.specs.Rooms.{RoomSpec, processes}
use Rattle.run_search.specs.declared.local_state.LocalState.{LocalState}
use Rattle.run_search.specs.declared.local_state.Origin.{Origin}
use Rattle.run_search.specs.Nodes.{AreGathered, Covers, GoesAlone, HasParent, IsNode, IsNodeAfter, IsStateBefore, IsWhole, Moves, Node}
use Rattle.run_search.specs.States.{blank, state_of}
use Rattle.run_search.specs.Steps.{lasts, moved_by}
use Rattle.run_search.proofs.Covering.{row_covered}
use Rattle.run_search.proofs.Realising.{row_set}

-- each process goes on alone to its local state
abbrev pub AllGoAlone : RoomSpec → List LocalState → List LocalState → Type 0
AllGoAlone spec from to = (q : ℕ) → q < processes spec → (steps : ℕ) × GoesAlone spec (lasts from) q steps (get_or from q blank) (get_or to q blank)

-- from the state before the first event to those of the first node
pub first_goes : (spec : RoomSpec) (nodes : List Node) (node : Node) (from state : List LocalState) → AreGathered spec nodes → slice_get nodes 0 ≡ Some node → Covers spec node state → from ≡ state_of spec [] → AllGoAlone spec from state
first_goes spec nodes node from state gathered is covers from_is = subst (λ (s : List LocalState). AllGoAlone spec s state) (sym from_is) (λ q below.
    let first = gathered.sound.first node is in
    let goes = first.each q (get_or state q blank) below (covers.each q below) in
    (goes.0, subst (λ (r : List (Option ℕ)). GoesAlone spec r q goes.0 (get_or (state_of spec []) q blank) (get_or state q blank)) first.row goes.1))

pub before_covers : (spec : RoomSpec) (before node : Node) (state old : List LocalState) → IsStateBefore spec before node (processes spec) state old → Covers spec before old
before_covers spec before node state old is = record { width = is.width; each = λ q below. (is.each q below).there }

-- the write of the node's origin is due
pub write_due : (spec : RoomSpec) (before node : Node) (state old : List LocalState) → IsNode spec before → (st : IsStateBefore spec before node (processes spec) state old)
    → (after : IsNodeAfter spec before node.origin.process node.origin.local node) → Moves spec (lasts old) node.origin.process (get_or old node.origin.process blank) after.next
write_due spec before node state old is st after =
    let p = node.origin.process in
    let row = row_covered spec before old is (before_covers spec before node state old st) in
    let own = (st.each p after.within).own refl in
    ap (λ (r : List (Option ℕ)). moved_by spec r p (get_or old p blank) (get_or old p blank).due) row
    ∙ ap (λ (l : LocalState). moved_by spec before.row p l l.due) own
    ∙ after.moves

-- after it each process goes on alone
pub write_goes : (spec : RoomSpec) (before node : Node) (state old taken : List LocalState) → IsNode spec before → (after : IsNodeAfter spec before node.origin.process node.origin.local node) → IsStateBefore spec before node (processes spec) state old → Covers spec node state
    → ((new : LocalState) → Moves spec (lasts old) node.origin.process (get_or old node.origin.process blank) new → taken ≡ set old node.origin.process new) → AllGoAlone spec taken state
write_goes spec before node state old taken is after st covers taken_is =
    let p = node.origin.process in
    let next = after.next in
    let written = set old p next in
    let row = row_covered spec before old is (before_covers spec before node state old st) in
    let below : p < length old = omega (arith, after.within, st.width) in
    let written_row : lasts written ≡ node.row = row_set old p next ∙ ap (λ (r : List (Option ℕ)). set r p next.last) row ∙ sym after.row in
    subst (λ (s : List LocalState). AllGoAlone spec s state) (sym (taken_is next (write_due spec before node state old is st after))) (λ q within. elim (cases_eq q p) [
      | inl same ↦
          let goes = after.own (get_or state p blank) (covers.each p after.within) in
          let here : get_or written p blank ≡ next = get_or-set_same old p next blank below in
          subst (λ (r : ℕ). (steps : ℕ) × GoesAlone spec (lasts written) r steps (get_or written r blank) (get_or state r blank)) (sym same)
          (goes.0, subst (λ (l : LocalState). GoesAlone spec (lasts written) p goes.0 l (get_or state p blank)) (sym here) (subst (λ (r : List (Option ℕ)). GoesAlone spec r p goes.0 next (get_or state p blank)) (sym written_row) goes.1))
      | inr other ↦
          let goes = (st.each q within).other other in
          let here : get_or written q blank ≡ get_or old q blank = get_or-set_other old p q next blank other in
          (goes.0, subst (λ (l : LocalState). GoesAlone spec (lasts written) q goes.0 l (get_or state q blank)) (sym here) (subst (λ (r : List (Option ℕ)). GoesAlone spec r q goes.0 (get_or old q blank) (get_or state q blank)) (sym written_row) goes.1))
    ])

-- ---- the node before

pub parent_at : (spec : RoomSpec) (nodes : List Node) (index : ℕ) (node : Node) → AreGathered spec nodes → 0 < index → index < length nodes → node ≡ get_or nodes index node → (slice_get nodes index ≡ Some node) × HasParent spec nodes index node
parent_at spec nodes index node gathered positive below read =
    let there : slice_get nodes index ≡ Some node = slice_get-get_or nodes index node below ∙ ap Some (sym read) in
    (there, gathered.sound.each index node positive there)

pub parent_read : (spec : RoomSpec) (nodes : List Node) (index : ℕ) (node read : Node) (origin : Origin) → (parent : HasParent spec nodes index node) → origin ≡ node.origin → read ≡ get_or nodes origin.from read → parent.before ≡ read
parent_read spec nodes index node read origin parent origin_is read_is = sym (read_is ∙ get_or_from_slice_get nodes origin.from parent.before read (ap (λ (o : Origin). slice_get nodes o.from) origin_is ∙ parent.there))

pub parent_earlier : (spec : RoomSpec) (nodes : List Node) (index : ℕ) (node : Node) (origin : Origin) → HasParent spec nodes index node → origin ≡ node.origin → origin.from < index
parent_earlier spec nodes index node origin parent origin_is = let from = ap (λ (o : Origin). o.from) origin_is in omega (arith, from, parent.earlier)

pub parent_whole : (spec : RoomSpec) (nodes : List Node) (index : ℕ) (node read : Node) (origin : Origin) → AreGathered spec nodes → (parent : HasParent spec nodes index node) → origin ≡ node.origin → read ≡ get_or nodes origin.from read → IsWhole spec read
parent_whole spec nodes index node read origin gathered parent origin_is read_is = subst (IsWhole spec) (parent_read spec nodes index node read origin parent origin_is read_is) (gathered.whole node.origin.from parent.before parent.there)

pub parent_after : (spec : RoomSpec) (nodes : List Node) (index : ℕ) (node read : Node) (origin : Origin) → (parent : HasParent spec nodes index node) → origin ≡ node.origin → read ≡ get_or nodes origin.from read → IsNodeAfter spec read node.origin.process node.origin.local node
parent_after spec nodes index node read origin parent origin_is read_is = subst (λ (b : Node). IsNodeAfter spec b node.origin.process node.origin.local node) (parent_read spec nodes index node read origin parent origin_is read_is) parent.after

-- the state before is covered by whichever node is read there
pub before_covered : (spec : RoomSpec) (nodes : List Node) (node read one : Node) (from : ℕ) (state old : List LocalState) → read ≡ get_or nodes from read → slice_get nodes from ≡ Some one → IsStateBefore spec read node (processes spec) state old → Covers spec one old
before_covered spec nodes node read one from state old read_is is st = subst (λ (n : Node). Covers spec n old) (read_is ∙ get_or_from_slice_get nodes from one read is) (before_covers spec read node state old st)
