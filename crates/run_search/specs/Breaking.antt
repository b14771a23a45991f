-- States that break a task, with the fewest events.
use Rattle.std.specs.Prelude.{◌≡◌, ℕ, ◌<◌, ◌≤◌, List, Option, Some, None, slice_get}
use Rattle.room_spec.specs.Rooms.{RoomSpec}
use Rattle.run_search.specs.declared.local_state.LocalState.{LocalState}
use Rattle.run_search.specs.declared.task.Breaking.{Breaking}
use Rattle.run_search.specs.Nodes.{Covers, Node}
use Rattle.run_search.specs.Picks.{Breaks}
use Rattle.run_search.specs.States.{State, events_in}
use Rattle.run_search.specs.Tasks.{AreFewInputs, decided_values}

-- of the states that the node covers none breaks the task, or this one does, and has the fewest events of those that do
pub record IsLeastBreakingIn (spec : RoomSpec) (most : ℕ) (node : Node) (found : Option State) : Type 0 where
  pub none : found ≡ None → (state : List LocalState) → Covers spec node state → AreFewInputs spec most (decided_values state)
  pub some : (breaking : State) → found ≡ Some breaking → Covers spec node breaking.items × Breaks spec most breaking.items
  pub least : (breaking : State) → found ≡ Some breaking → (state : List LocalState) → Covers spec node state → Breaks spec most state → events_in breaking.items ≤ events_in state

-- so it is of the states that the first nodes cover
pub record IsLeastBreaking (spec : RoomSpec) (most : ℕ) (nodes : List Node) (count : ℕ) (found : Option Breaking) : Type 0 where
  pub none : found ≡ None → (i : ℕ) (node : Node) (state : List LocalState) → i < count → slice_get nodes i ≡ Some node → Covers spec node state → AreFewInputs spec most (decided_values state)
  pub some : (breaking : Breaking) → found ≡ Some breaking → (node : Node) × (slice_get nodes breaking.node ≡ Some node) × Covers spec node breaking.state.items × Breaks spec most breaking.state.items
  pub least : (breaking : Breaking) → found ≡ Some breaking → (i : ℕ) (node : Node) (state : List LocalState) → i < count → slice_get nodes i ≡ Some node → Covers spec node state → Breaks spec most state
      → events_in breaking.state.items ≤ events_in state

-- of the first picks none breaks the task, or that of this index does, and has the fewest events of those that do
pub record IsLeastPick (spec : RoomSpec) (most : ℕ) (picks : List State) (count : ℕ) (found : Option ℕ) : Type 0 where
  pub none : found ≡ None → (i : ℕ) (pick : State) → i < count → slice_get picks i ≡ Some pick → AreFewInputs spec most (decided_values pick.items)
  pub some : (k : ℕ) → found ≡ Some k → (one : State) × (slice_get picks k ≡ Some one) × Breaks spec most one.items
  pub least : (k : ℕ) (one : State) → found ≡ Some k → slice_get picks k ≡ Some one → (i : ℕ) (pick : State) → i < count → slice_get picks i ≡ Some pick → Breaks spec most pick.items → events_in one.items ≤ events_in pick.items
