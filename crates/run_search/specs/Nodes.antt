-- Nodes: many states of runs at once, those with one content of memory.
use Rattle.std.specs.Prelude.{◌≡◌, ◌⊎◌, ℕ, zero, suc, ◌+◌, ◌<◌, ◌≤◌, List, [], ◌∷◌, ◌++◌, length, Option, Some, None, slice_get, slice_index_or, slice_set}
use Rattle.std.specs.List.{Contains}
use Rattle.room_spec.specs.Rooms.{RoomSpec, processes}
use Rattle.transcript.specs.declared.event.Event.{Event}
use Rattle.transcript.specs.Runs.{IsRun}
use Rattle.run_search.specs.declared.local_state.Due.{Due}
use Rattle.run_search.specs.declared.local_state.Due.TheVariants.{Write, Snap, Decide, Decided, Spent}
use Rattle.run_search.specs.declared.local_state.LocalState.{LocalState}
use Rattle.run_search.specs.declared.local_state.Origin.{Origin}
use Rattle.run_search.specs.States.{blank, local_of, state_of}
use Rattle.run_search.specs.Steps.{IsReachable, lasts, moved_by}

-- The last write of each process, the local states that it may be in, and the write by which the node was reached first.
pub record Node : Type 0 where
  pub row : List (Option ℕ)
  pub sets : List (List LocalState)
  pub origin : Origin

-- the local states that process p may be in
abbrev pub set_of : Node → ℕ → List LocalState
set_of node p = slice_index_or node.sets p []

-- each of the first processes is in one of its local states
pub record IsPick (node : Node) (count : ℕ) (state : List LocalState) : Type 0 where
  pub width : length state ≡ count
  pub each : (p : ℕ) → p < count → Contains (set_of node p) (slice_index_or state p blank)

-- each process is in one of its local states
abbrev pub Covers : RoomSpec → Node → List LocalState → Type 0
Covers spec node state = IsPick node (processes spec) state

-- ---- steps

-- process p goes from one local state to the next where these are the last writes
abbrev pub Moves : RoomSpec → List (Option ℕ) → ℕ → LocalState → LocalState → Type 0
Moves spec row p local next = moved_by spec row p local local.due ≡ Some next

-- and leaves them as they are: by a snapshot, a decision, or a write of what it wrote last
pub record MovesAlone (spec : RoomSpec) (row : List (Option ℕ)) (p : ℕ) (local next : LocalState) : Type 0 where
  pub moves : Moves spec row p local next
  pub alone : next.last ≡ local.last

-- and changes them: by a write of another value
pub record Changes (spec : RoomSpec) (row : List (Option ℕ)) (p : ℕ) (local next : LocalState) : Type 0 where
  pub moves : Moves spec row p local next
  pub other : next.last ≡ local.last → ⊥

-- this number of steps that leave the last writes as they are lead from one local state to another
abbrev pub GoesAlone : RoomSpec → List (Option ℕ) → ℕ → ℕ → LocalState → LocalState → Type 0
GoesAlone spec row p zero local to = local ≡ to
GoesAlone spec row p (suc steps) local to = (between : LocalState) × GoesAlone spec row p steps local between × MovesAlone spec row p between to

-- each of one list is in the other
abbrev pub AreIn : List LocalState → List LocalState → Type 0
AreIn some all = (local : LocalState) → Contains some local → Contains all local

-- the local state was there, or is the last now
abbrev pub IsAdded : List LocalState → LocalState → List LocalState → Type 0
IsAdded old local new = (new ≡ old) ⊎ (new ≡ old ++ local ∷ [])

-- steps of process p without a change of memory lead to it from one of these
abbrev pub IsComeTo : RoomSpec → List (Option ℕ) → ℕ → List LocalState → LocalState → Type 0
IsComeTo spec row p from to = (old : LocalState) × Contains from old × (steps : ℕ) × GoesAlone spec row p steps old to

-- a step of process p that leaves the last writes as they are stays in the set
abbrev pub IsSetClosed : RoomSpec → List (Option ℕ) → ℕ → List LocalState → Type 0
IsSetClosed spec row p set = (local next : LocalState) → Contains set local → MovesAlone spec row p local next → Contains set next

-- a set has these and all that follow from them without a change of memory, and no more
pub record IsGrown (spec : RoomSpec) (row : List (Option ℕ)) (p : ℕ) (from set : List LocalState) : Type 0 where
  pub kept : AreIn from set
  pub come : (to : LocalState) → Contains set to → IsComeTo spec row p from to
  pub closed : IsSetClosed spec row p set

-- ---- rounds

-- the writes that are due at once
abbrev pub writes_due : Due → ℕ
writes_due (Write v) = 1
writes_due Snap = 0
writes_due (Decide v) = 0
writes_due (Decided v) = 0
writes_due Spent = 0

-- it has made no more writes than there are rounds, with one that is due
abbrev pub IsWithinRounds : RoomSpec → LocalState → Type 0
IsWithinRounds spec local = local.writes + writes_due local.due ≤ spec.rounds

abbrev pub AreWithinRounds : RoomSpec → List LocalState → Type 0
AreWithinRounds spec set = (local : LocalState) → Contains set local → IsWithinRounds spec local

-- ---- all nodes of a room

-- the node has a row and sets for all processes, and each local state agrees with the row
pub record IsNode (spec : RoomSpec) (node : Node) : Type 0 where
  pub width : length node.row ≡ processes spec
  pub last : (p : ℕ) (local : LocalState) → p < processes spec → Contains (set_of node p) local → local.last ≡ slice_index_or node.row p None

-- a step that leaves the last writes as they are stays in the node
abbrev pub IsClosed : RoomSpec → Node → Type 0
IsClosed spec node = (p : ℕ) → p < processes spec → IsSetClosed spec node.row p (set_of node p)

-- the node has process p in this local state, and the others where they were, in memory with p's write
pub record IsBehind (spec : RoomSpec) (node : Node) (p : ℕ) (next : LocalState) (to : Node) : Type 0 where
  pub row : to.row ≡ slice_set node.row p next.last
  pub own : Contains (set_of to p) next
  pub others : (q : ℕ) (local : LocalState) → q < processes spec → (q ≡ p → ⊥) → Contains (set_of node q) local → Contains (set_of to q) local

-- a write of process p that changes memory leads from this local state to one of these nodes
abbrev pub HasEdge : RoomSpec → List Node → Node → ℕ → LocalState → Type 0
HasEdge spec nodes node p local = (next : LocalState) → Changes spec node.row p local next → (to : Node) × Contains nodes to × IsBehind spec node p next to

-- so it is for each process and each of its local states
abbrev pub HasEdges : RoomSpec → List Node → Node → Type 0
HasEdges spec nodes node = (p : ℕ) (local : LocalState) → p < processes spec → Contains (set_of node p) local → HasEdge spec nodes node p local

-- all that one node has, another has
pub record IsBelow (node above : Node) : Type 0 where
  pub row : above.row ≡ node.row
  pub sets : (p : ℕ) → AreIn (set_of node p) (set_of above p)

-- all that the node has is in one from which the writes lead to some of these nodes
abbrev pub IsBelowOneWithEdges : RoomSpec → List Node → Node → Type 0
IsBelowOneWithEdges spec nodes node = (above : Node) × Contains nodes above × IsBelow node above × HasEdges spec nodes above

-- all that the node of this index has is in a later one
abbrev pub IsBelowLater : List Node → ℕ → Node → Type 0
IsBelowLater nodes index node = (later : ℕ) × (above : Node) × (index < later) × (slice_get nodes later ≡ Some above) × IsBelow node above

-- some node covers the first state, and no step leads out of these nodes
pub record AreComplete (spec : RoomSpec) (nodes : List Node) : Type 0 where
  pub each : (i : ℕ) (node : Node) → slice_get nodes i ≡ Some node → IsNode spec node
  pub first : (node : Node) × Contains nodes node × Covers spec node (state_of spec [])
  pub closed : (i : ℕ) (node : Node) → slice_get nodes i ≡ Some node → IsClosed spec node
  pub edges : (i : ℕ) (node : Node) → slice_get nodes i ≡ Some node → IsBelowOneWithEdges spec nodes node

-- steps without a change of memory lead to each local state of a process from its first one
pub record IsFirstNode (spec : RoomSpec) (node : Node) : Type 0 where
  pub row : node.row ≡ lasts (state_of spec [])
  pub each : (p : ℕ) (local : LocalState) → p < processes spec → Contains (set_of node p) local
      → (steps : ℕ) × GoesAlone spec node.row p steps (slice_index_or (state_of spec []) p blank) local

-- The process changes memory, from this local state: from there steps without a further change lead to its local states, and to those of each
-- other process from what they were.
pub record IsNodeAfter (spec : RoomSpec) (before : Node) (process : ℕ) (local : LocalState) (node : Node) : Type 0 where
  pub within : process < processes spec
  pub there : Contains (set_of before process) local
  pub next : LocalState
  pub moves : Moves spec before.row process local next
  pub row : node.row ≡ slice_set before.row process next.last
  pub own : (to : LocalState) → Contains (set_of node process) to → (steps : ℕ) × GoesAlone spec node.row process steps next to
  pub others : (q : ℕ) (to : LocalState) → q < processes spec → (q ≡ process → ⊥) → Contains (set_of node q) to
      → IsComeTo spec node.row q (set_of before q) to

-- the node of the first state
pub record IsFirst (spec : RoomSpec) (node : Node) : Type 0 where
  pub width : length node.sets ≡ processes spec
  pub row : node.row ≡ lasts (state_of spec [])
  pub sets : (p : ℕ) → p < processes spec → IsGrown spec node.row p (local_of spec [] p ∷ []) (set_of node p)

-- the node that process p leads to by a write after which it is in this local state
pub record IsNext (spec : RoomSpec) (before : Node) (p : ℕ) (next : LocalState) (node : Node) : Type 0 where
  pub width : length node.sets ≡ processes spec
  pub row : node.row ≡ slice_set before.row p next.last
  pub own : IsGrown spec node.row p (next ∷ []) (set_of node p)
  pub others : (q : ℕ) → q < processes spec → (q ≡ p → ⊥) → IsGrown spec node.row q (set_of before q) (set_of node q)

-- the node to which a write of process p leads that changes memory, from this local state
pub record IsEdge (spec : RoomSpec) (before : Node) (p : ℕ) (local : LocalState) (node : Node) : Type 0 where
  pub next : LocalState
  pub changes : Changes spec before.row p local next
  pub leads : IsNext spec before p next node

-- the node comes after an earlier one
pub record HasParent (spec : RoomSpec) (nodes : List Node) (index : ℕ) (node : Node) : Type 0 where
  pub before : Node
  pub earlier : node.origin.from < index
  pub there : slice_get nodes node.origin.from ≡ Some before
  pub after : IsNodeAfter spec before node.origin.process node.origin.local node
  pub edge : IsEdge spec before node.origin.process node.origin.local node

-- each node but the first comes after an earlier one
pub record AreSound (spec : RoomSpec) (nodes : List Node) : Type 0 where
  pub first : (node : Node) → slice_get nodes 0 ≡ Some node → IsFirstNode spec node
  pub each : (i : ℕ) (node : Node) → 0 < i → slice_get nodes i ≡ Some node → HasParent spec nodes i node

-- the states that some of these nodes cover are those of all runs
abbrev pub CoverAllReachable : RoomSpec → List Node → Type 0
CoverAllReachable spec nodes =
    (state : List LocalState) → (IsReachable spec state → (node : Node) × Contains nodes node × Covers spec node state)
    × ((node : Node) → Contains nodes node → Covers spec node state → IsReachable spec state)

-- ---- how nodes are made

-- what each node of a search is
pub record IsWhole (spec : RoomSpec) (node : Node) : Type 0 where
  pub is : IsNode spec node
  pub width : length node.sets ≡ processes spec
  pub closed : IsClosed spec node
  pub rounds : (p : ℕ) → p < processes spec → AreWithinRounds spec (set_of node p)
  pub some : (p : ℕ) → p < processes spec → (local : LocalState) × Contains (set_of node p) local

-- the nodes that a search has so far
pub record AreGathered (spec : RoomSpec) (nodes : List Node) : Type 0 where
  pub first : (node : Node) × (slice_get nodes 0 ≡ Some node) × IsFirst spec node
  pub sound : AreSound spec nodes
  pub whole : (i : ℕ) (node : Node) → slice_get nodes i ≡ Some node → IsWhole spec node

-- some nodes were added at the end
abbrev pub NodesGrow : List Node → List Node → Type 0
NodesGrow old new = (more : List Node) × (new ≡ old ++ more)

-- the writes from the node of this index that change memory, of the first local states of process p, lead to some of the nodes
abbrev pub HasEdgesBelow : RoomSpec → List Node → Node → ℕ → ℕ → Type 0
HasEdgesBelow spec nodes node p count = (i : ℕ) (local : LocalState) → i < count → slice_get (set_of node p) i ≡ Some local → HasEdge spec nodes node p local

-- ---- runs

-- the events are those of a run, and this is the state after them
pub record IsRunTo (spec : RoomSpec) (events : List Event) (state : List LocalState) : Type 0 where
  pub run : IsRun spec events
  pub state_is : state ≡ state_of spec events

-- the local state of process q before the write of the node's origin, after which it goes alone to this one
pub record IsLocalBefore (spec : RoomSpec) (before node : Node) (q : ℕ) (to old : LocalState) : Type 0 where
  pub there : Contains (set_of before q) old
  pub own : q ≡ node.origin.process → old ≡ node.origin.local
  pub other : (q ≡ node.origin.process → ⊥) → (steps : ℕ) × GoesAlone spec node.row q steps old to

-- so it is for each process
pub record IsStateBefore (spec : RoomSpec) (before node : Node) (count : ℕ) (state old : List LocalState) : Type 0 where
  pub width : length old ≡ count
  pub each : (q : ℕ) → q < count → IsLocalBefore spec before node q (slice_index_or state q blank) (slice_index_or old q blank)
