-- Picks: states of a node, one for all that decide the same values.
use Rattle.std.specs.Prelude.{◌≡◌, ◌⊎◌, ◌↔◌, ℕ, ◌<◌, ◌≤◌, Option, Some, None, List, slice_get}
use Rattle.std.specs.List.{Contains}
use Rattle.room_spec.specs.Rooms.{RoomSpec}
use Rattle.run_search.specs.declared.ended.Ended.{Ended}
use Rattle.run_search.specs.declared.local_state.LocalState.{LocalState}
use Rattle.run_search.specs.Nodes.{AreIn, IsPick, Node}
use Rattle.run_search.specs.Outcomes.{ended}
use Rattle.run_search.specs.States.{State, events_in, events_of}
use Rattle.run_search.specs.Tasks.{AreFewInputs, decided_values}

-- the values that are decided in the state are no inputs, or too many are different
abbrev pub Breaks : RoomSpec → ℕ → List LocalState → Type 0
Breaks spec most state = AreFewInputs spec most (decided_values state) → ⊥

-- the same values are decided in both
abbrev pub DecideSame : List LocalState → List LocalState → Type 0
DecideSame one other = (v : ℕ) → Contains (decided_values one) v ↔ Contains (decided_values other) v

-- the same values are decided in both, or both break the task
abbrev pub IsSame : RoomSpec → ℕ → List LocalState → List LocalState → Type 0
IsSame spec most one other = (Breaks spec most one × Breaks spec most other) ⊎ DecideSame one other

-- one of the picks is so, and has no more events
abbrev pub HasStandIn : RoomSpec → ℕ → List State → List LocalState → Type 0
HasStandIn spec most picks state = (pick : State) × Contains picks pick × IsSame spec most pick.items state × (events_in pick.items ≤ events_in state)

-- these are picks of the first processes of the node, and one stands for each
pub record ArePicks (spec : RoomSpec) (most : ℕ) (node : Node) (count : ℕ) (picks : List State) : Type 0 where
  pub each : (pick : State) → Contains picks pick → IsPick node count pick.items
  pub all : (state : List LocalState) → IsPick node count state → HasStandIn spec most picks state

-- of the local states with this end it has the fewest events
pub record IsLeast (set : List LocalState) (end : Ended) (local : LocalState) : Type 0 where
  pub among : Contains set local
  pub end_is : ended local.due ≡ end
  pub least : (other : LocalState) → Contains set other → ended other.due ≡ end → events_of local ≤ events_of other

-- so it is of the first `count`, if one of them has this end
pub record IsLeastSoFar (set : List LocalState) (end : Ended) (count : ℕ) (found : Option LocalState) : Type 0 where
  pub none : found ≡ None → (i : ℕ) (other : LocalState) → i < count → slice_get set i ≡ Some other → ended other.due ≡ end → ⊥
  pub some : (one : LocalState) → found ≡ Some one → Contains set one × (ended one.due ≡ end)
  pub least : (one : LocalState) → found ≡ Some one → (i : ℕ) (other : LocalState) → i < count → slice_get set i ≡ Some other → ended other.due ≡ end → events_of one ≤ events_of other

-- one for each end
pub record AreLeast (set options : List LocalState) : Type 0 where
  pub among : AreIn options set
  pub all : (local : LocalState) → Contains set local → (option : LocalState) × Contains options option × (ended option.due ≡ ended local.due) × (events_of option ≤ events_of local)
