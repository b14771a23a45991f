-- What a search that stops at the first run that breaks a task says.
use Rattle.std.specs.Prelude.{◌≡◌, ℕ, ◌<◌, ◌≤◌, List, length, Some, slice_get}
use Rattle.std.specs.List.{Contains}
use Rattle.room_spec.specs.Rooms.{RoomSpec}
use Rattle.transcript.specs.declared.event.Event.{Event}
use Rattle.transcript.specs.Runs.{IsRun}
use Rattle.transcript.specs.Tasks.{KeepsOwnTask}
use Rattle.run_search.specs.declared.judging.Judgement.{Judgement}
use Rattle.run_search.specs.declared.judging.Judgement.TheVariants.{Kept, Broken}
use Rattle.run_search.specs.declared.local_state.LocalState.{LocalState}
use Rattle.run_search.specs.Limits.{AreTooMany}
use Rattle.run_search.specs.Nodes.{CoverAllReachable, Covers, Node}
use Rattle.run_search.specs.States.{state_of}
use Rattle.run_search.specs.Tasks.{AreFewInputs, IsBreakingRun, decided_values}

-- each run of the room keeps its task
abbrev pub DoRunsKeep : RoomSpec → Type 0
DoRunsKeep spec = (events : List Event) → IsRun spec events → KeepsOwnTask spec events

-- this number of nodes, which is within the limit, stands for the states of all runs of the room
abbrev pub HasNodes : RoomSpec → ℕ → ℕ → Type 0
HasNodes spec limit count = (nodes : List Node) × CoverAllReachable spec nodes × (length nodes ≡ count) × (count ≤ limit)

-- each run keeps the room's task, and this number of nodes stands for all; or these are the events of a run that breaks it
abbrev pub IsJudged : RoomSpec → ℕ → Judgement → Type 0
IsJudged spec limit (Kept count) = DoRunsKeep spec × HasNodes spec limit count
IsJudged spec limit (Broken events) = IsBreakingRun spec events.items

-- there are more than `limit` nodes, and each run whose state one of them covers keeps the room's task
pub record AreTooManyKept (spec : RoomSpec) (limit : ℕ) : Type 0 where
  pub many : AreTooMany spec limit
  pub kept : (node : Node) (events : List Event) → Contains many.nodes node → IsRun spec events → Covers spec node (state_of spec events) → KeepsOwnTask spec events

-- ---- how nodes are judged

-- no state that the node covers breaks the task
abbrev pub DoStatesKeep : RoomSpec → ℕ → Node → Type 0
DoStatesKeep spec most node = (state : List LocalState) → Covers spec node state → AreFewInputs spec most (decided_values state)

-- so it is of the nodes from the first of these indices up to the second
abbrev pub DoNodesKeep : RoomSpec → ℕ → List Node → ℕ → ℕ → Type 0
DoNodesKeep spec most nodes from end = (i : ℕ) (node : Node) → from ≤ i → i < end → slice_get nodes i ≡ Some node → DoStatesKeep spec most node
