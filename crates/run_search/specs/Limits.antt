-- What is so when a search reaches its limit.
use Rattle.std.specs.Prelude.{◌≡◌, ◌⊎◌, ℕ, ◌<◌, List, length, Option, Some, eqb, slice_get}
use Rattle.std.specs.Int.{bit_at}
use Rattle.std.specs.List.{Contains}
use Rattle.std.specs.Cmp.Lexicographic.{pointwise}
use Rattle.std.specs.Global.{Vec}
use Rattle.std.specs.Map.{lookup}
use Rattle.std.specs.Option.{option_eq}
use Rattle.arrayvec.specs.ArrayVec.{ArrayVec}
use Rattle.room_spec.specs.Rooms.{RoomSpec, processes}
use Rattle.run_search.specs.declared.explored.Entry.{Entry}
use Rattle.run_search.specs.declared.explored.Explored.{Explored}
use Rattle.run_search.specs.declared.local_state.LocalState.{LocalState}
use Rattle.run_search.specs.Marks.{AreMarksOf, mark_of}
use Rattle.run_search.specs.Nodes.{AreGathered, Covers, Node, set_of}
use Rattle.run_search.specs.Steps.{IsReachable}

-- the node covers a state that the other does not
abbrev pub CoversMore : RoomSpec → Node → Node → Type 0
CoversMore spec node other = (state : List LocalState) × Covers spec node state × (Covers spec other state → ⊥)

-- each node covers a state that no one earlier node does
abbrev pub AreApart : RoomSpec → List Node → Type 0
AreApart spec nodes = (i j : ℕ) (earlier later : Node) → i < j → slice_get nodes i ≡ Some earlier → slice_get nodes j ≡ Some later → CoversMore spec later earlier

-- There are more than `limit` nodes: that of the state before the first event, and others, to each of which a write leads from an earlier one. Each
-- state that they cover is one of a run, and of two of them the later one covers a state that the other does not.
pub record AreTooMany (spec : RoomSpec) (limit : ℕ) : Type 0 where
  pub nodes : List Node
  pub many : limit < length nodes
  pub gathered : AreGathered spec nodes
  pub reachable : (node : Node) (state : List LocalState) → Contains nodes node → Covers spec node state → IsReachable spec state
  pub apart : AreApart spec nodes

-- ---- how nodes are found by their rows

-- what is kept of nodes, by their row
abbrev pub Rows : Type 0
Rows = List (ArrayVec (Option ℕ) × Vec Entry)

abbrev pub entries_at : Rows → List (Option ℕ) → Option (Vec Entry)
entries_at rows row = lookup (λ key. pointwise (option_eq eqb) row key.items) rows

-- what is read beyond the end of a list of entries
abbrev pub no_entry : Entry
no_entry = record { index = 0; marks = 0 }

-- the entry is among those of the row
pub record IsListed (rows : Rows) (row : List (Option ℕ)) (entry : Entry) : Type 0 where
  pub entries : Vec Entry
  pub there : entries_at rows row ≡ Some entries
  pub among : Contains entries.items entry

-- each local state of the node has its mark among these
abbrev pub HasMarks : Node → ℕ → Type 0
HasMarks node marks = (p : ℕ) (local : LocalState) → Contains (set_of node p) local → bit_at marks (mark_of p local) ≡ 1

-- the node of this index is listed under its row, with its marks
pub record IsNodeListed (rows : Rows) (index : ℕ) (node : Node) : Type 0 where
  pub marks : ℕ
  pub listed : IsListed rows node.row (record { index = index; marks = marks })
  pub has : HasMarks node marks

-- so is each node
abbrev pub AreListed : Rows → List Node → Type 0
AreListed rows nodes = (i : ℕ) (node : Node) → slice_get nodes i ≡ Some node → IsNodeListed rows i node

-- each of these marks is that of a local state of the node
abbrev pub AreMarksIn : Node → ℕ → Type 0
AreMarksIn node marks = AreMarksOf (λ p local. (p < length node.sets) × Contains (set_of node p) local) marks

-- the nodes have another row, or sets for another number of processes, or one has a local state that the other has not
abbrev pub IsNotBelow : Node → Node → Type 0
IsNotBelow node above =
    (above.row ≡ node.row → ⊥)
    ⊎ ((length node.sets ≡ length above.sets → ⊥) ⊎ ((p : ℕ) × (local : LocalState) × (p < length node.sets) × Contains (set_of node p) local × (Contains (set_of above p) local → ⊥)))

-- what process q may be in when process p of the node is in this local state
abbrev pub IsAfter : Node → ℕ → LocalState → ℕ → LocalState → Type 0
IsAfter node p new q local = ((q ≡ p) × (local ≡ new)) ⊎ ((q ≡ p → ⊥) × Contains (set_of node q) local)

-- each of these marks is that of a local state that some process may be in then
abbrev pub AreMarksAfter : RoomSpec → Node → ℕ → LocalState → ℕ → Type 0
AreMarksAfter spec node p new marks = AreMarksOf (λ q local. (q < processes spec) × IsAfter node p new q local) marks

-- another node has all of it, and this row
pub record HasAfter (spec : RoomSpec) (node : Node) (p : ℕ) (new : LocalState) (row : List (Option ℕ)) (above : Node) : Type 0 where
  pub row_is : above.row ≡ row
  pub all : (q : ℕ) (local : LocalState) → q < processes spec → IsAfter node p new q local → Contains (set_of above q) local

-- it has another row, or sets for another number of processes, or not one of these local states
abbrev pub IsWithoutAfter : RoomSpec → Node → ℕ → LocalState → List (Option ℕ) → Node → Type 0
IsWithoutAfter spec node p new row above =
    (above.row ≡ row → ⊥)
    ⊎ ((length above.sets ≡ processes spec → ⊥) ⊎ ((q : ℕ) × (local : LocalState) × (q < processes spec) × IsAfter node p new q local × (Contains (set_of above q) local → ⊥)))

-- what a search has so far
pub record IsSearched (spec : RoomSpec) (explored : Explored) : Type 0 where
  pub gathered : AreGathered spec explored.nodes.items
  pub listed : AreListed explored.by_row.entries explored.nodes.items
  pub apart : AreApart spec explored.nodes.items
